-- The open dialogues of a shard (Q.774, TS 29.002), as a finite map from local transaction ids.
use Rattle.std.specs.Prelude.{◌≡◌, ℕ, ℤ, List, [], Option, Some, None, refl}
use Rattle.std.specs.Coded.{Coded, code_by, coded×, coded_ℕ}
use Rattle.std.specs.FinMap as map
use Rattle.hlr_types.specs.Orders.{octets_cmp}
use Rattle.machine.specs.Expiries.{without}
use Rattle.machine.specs.State.{Invocation, Dialogue, IsIdOf}
use Rattle.tidalloc.specs.LiveIds.{LiveIds, Supply, supply_code, unused, next_id, after_taking, after_freeing}
use Rattle.tsl.specs.Transactions.{active}
use Rattle.dialogues.specs.Codes.{coded_octets, coded_dialogue}

-- The open dialogues of a shard by local id, and what decides under which id the next one opens.
pub record OpenDialogues : Type 0 where
  pub shard : ℕ
  pub supply : Supply
  pub open_ones : map.FinMap octets_cmp Dialogue

abbrev pub open_dialogues_code : Coded OpenDialogues
open_dialogues_code =
    code_by (ℕ × (Supply × map.FinMap octets_cmp Dialogue))
    (coded× coded_ℕ (coded× supply_code (map.code coded_octets coded_dialogue)))
    (λ d. (d.shard, (d.supply, d.open_ones)))
    (λ p. record { shard = p.0; supply = p.1.0; open_ones = p.1.1 })
    (λ _. refl)

-- The open dialogue under each local id.
unfoldable pub dialogues_of : OpenDialogues → List ℕ → Option Dialogue
dialogues_of d id = map.get d.open_ones id

-- How many are open.
abbrev pub count : OpenDialogues → ℕ
count d = map.len d.open_ones

-- The invocations of the dialogue that is open under an id; none if none is open.
abbrev pub invocations_in : Option Dialogue → List Invocation
invocations_in None = []
invocations_in (Some d) = d.invocations

-- The id under which the next one opens, if there is room for one.
abbrev pub next_of : OpenDialogues → Option (List ℕ)
next_of d = next_id d.shard d.supply

-- The ids as they were: the next ones are the same.
pub record KeepsIds (old new : OpenDialogues) : Type 0 where
  pub shard : new.shard ≡ old.shard
  pub supply : new.supply ≡ old.supply

-- The id of a dialogue that closes, if any, is free.
abbrev pub freed : Option (List ℕ) → Supply → Supply
freed None supply = supply
freed (Some id) supply = after_freeing supply id

-- An id is taken, if a dialogue opens.
abbrev pub used : Option (List ℕ) → Supply → Supply
used None supply = supply
used (Some id) supply = after_taking supply

-- The ids of slots that were never used begin after this generation.
abbrev pub beginning_after : OpenDialogues → ℕ → OpenDialogues
beginning_after d generation = record d { supply = record d.supply { first = generation } }

-- The shard has this number, no dialogue is open, and none ever was.
pub record IsFresh (n : ℕ) (d : OpenDialogues) : Type 0 where
  pub of_shard : d.shard ≡ n
  pub never_used : d.supply ≡ unused 0
  pub none_open : dialogues_of d ≡ (λ _. None)

-- No dialogue is open, and the next ids are those of these.
abbrev pub none_with : LiveIds → OpenDialogues
none_with ids = record { shard = ids.shard; supply = ids.supply; open_ones = map.empty }

-- An id under which a dialogue may open: one of the shard that names no open dialogue.
pub record IsNew (d : OpenDialogues) (id : List ℕ) : Type 0 where
  pub of_shard : IsIdOf d.shard id
  pub not_open : dialogues_of d id ≡ None

-- A dialogue that is Active after a Continue (Q.774), with this peer and this remote id.
abbrev pub activated : (peer remote : List ℕ) → Dialogue → Dialogue
activated peer remote d = record d { transaction = active peer remote }

-- A dialogue that goes on with these invocations.
abbrev pub gone_on : (left : List Invocation) → Dialogue → Dialogue
gone_on left d = record d { invocations = left }

-- A dialogue without the invocation of this id.
abbrev pub forgotten : ℤ → Dialogue → Dialogue
forgotten invoke d = record d { invocations = without invoke d.invocations }
