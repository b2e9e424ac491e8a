-- The tables that the open dialogues stand in, joined.
use Rattle.std.specs.Prelude.{◌≡◌, ◌≢◌, ◌<◌, ◌≤◌, ℕ, List, [], None, length, slice_index_or}
use Rattle.std.specs.Prelude as lists
use Rattle.std.specs.FinMap as map
use Rattle.hlr_types.specs.Orders.{octets_cmp}
use Rattle.machine.specs.declared.numbers.TheConstants.{MAX_DIALOGUES}
use Rattle.machine.specs.State as machine
use Rattle.tidalloc.specs.LiveIds.{slot_of}
use Rattle.tsl.specs.Transactions.{OpenTransactions, HaveIdsOfShard, at, count}
use Rattle.csl.specs.Tables.{InvocationLists, invocations_at}
use Rattle.dialogues.specs.declared.dialogue.Dialogue.{Dialogue}
use Rattle.dialogues.specs.declared.kind.Kind.TheVariants.{Data}
use Rattle.dialogues.specs.declared.talk.Talk.{Talk}
use Rattle.dialogues.specs.Seen.{kind_of}
use Rattle.dialogues.specs.Dialogues.{OpenDialogues}

-- The value of a slot that does not exist.
abbrev pub no_talk : Talk
no_talk = record { subscriber = []; kind = Data }

-- The subscriber and the kind of a dialogue.
abbrev pub talk_in : Dialogue → Talk
talk_in d = record { subscriber = d.subscriber; kind = d.kind }

-- Subscriber and kind at the slot of an id.
abbrev pub talk_of : List Talk → List ℕ → Talk
talk_of talks id = slice_index_or talks (slot_of id) no_talk

-- The dialogue with this subscriber and kind, these invocations and this transaction.
abbrev pub dialogue_from : Talk → List machine.Invocation → machine.Transaction → machine.Dialogue
dialogue_from talk invocations t =
    record { subscriber = talk.subscriber; transaction = t; invocations = invocations; kind = kind_of talk.kind }

-- The dialogue of the transaction with this id, from what the other tables have for it.
abbrev pub dialogue_at : InvocationLists → List Talk → List ℕ → machine.Transaction → machine.Dialogue
dialogue_at lists talks id t = dialogue_from (talk_of talks id) (invocations_at lists id) t

-- The map with each value replaced by a function of its key and it.
abbrev pub remade : {X Y : Type 0} → (List ℕ → X → Y) → map.FinMap octets_cmp X → map.FinMap octets_cmp Y
remade {X} {Y} f m = map.from_sorted (lists.map (λ (e : List ℕ × X). (e.0, f e.0 e.1)) (map.entries m))

-- The three tables joined.
abbrev pub joined : OpenTransactions → InvocationLists → List Talk → OpenDialogues
joined t lists talks =
    record { shard = t.shard; supply = t.supply; open_ones = remade (dialogue_at lists talks) t.open_ones }

-- Each open transaction has a subscriber and a kind, only open ones have invocations, all ids are of the shard, and at most
-- 4,096 are open.
pub record AreTied (t : OpenTransactions) (lists : InvocationLists) (talks : List Talk) : Type 0 where
  pub have_talks : (id : List ℕ) → at t id ≢ None → slot_of id < length talks
  pub only_open : (id : List ℕ) → at t id ≡ None → invocations_at lists id ≡ []
  pub of_shard : HaveIdsOfShard t
  pub few : count t ≤ MAX_DIALOGUES
