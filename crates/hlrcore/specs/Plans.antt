-- What an event results in before anything is done, and what is then done.
use Rattle.std.specs.Prelude.{◌≡◌, ◌≢◌, ℕ, List, Option, Some, None, option_map, IfSome}
use Rattle.machine.specs.State as machine
use Rattle.machine.specs.State.{Local, IsFull}
use Rattle.machine.specs.Outcome.{Outcome}
use Rattle.machine.specs.Step.{moved, seen}
use Rattle.tidalloc.specs.LiveIds.{next_use}
use Rattle.dialogues.specs.Dialogues.{IsNew, activated, dialogues_of, next_of}
use Rattle.records.specs.Subscriber.{AreAllowed}
use Rattle.location.specs.declared.outcome.After.TheVariants.{NewCodes}
use Rattle.location.specs.declared.outcome.DialogueChange.{DialogueChange}
use Rattle.location.specs.declared.outcome.DialogueChange.TheVariants.{Opens, Forgets}
use Rattle.location.specs.Seen.{outcome_of}
use Rattle.location.specs.Writing.{CanBeWritten}
use Rattle.hlrcore.specs.declared.plan.Named.{Named}
use Rattle.hlrcore.specs.declared.plan.Named.TheVariants.{Nothing, Open, Continued}
use Rattle.hlrcore.specs.declared.plan.Plan.{Plan}
use Rattle.hlrcore.specs.Shards.{ShardState, state_of, record_at}

-- the id of the open dialogue that an event names, if any
abbrev pub id_of : Named → Option (List ℕ)
id_of Nothing = None
id_of (Open id) = Some id
id_of (Continued id peer remote) = Some id

-- that dialogue, with its transaction as the received message leaves it
abbrev pub named_as : ShardState → Named → Option machine.Dialogue
named_as s Nothing = None
named_as s (Open id) = dialogues_of s.dialogues id
named_as s (Continued id peer remote) = option_map (activated peer remote) (dialogues_of s.dialogues id)

-- what the procedure sees of the event's subscriber, if any
abbrev pub here : ShardState → Plan → Local
here s plan = seen (state_of s) s.shard plan.imsi

-- the procedure's outcome
abbrev pub plan_outcome : ShardState → Plan → Outcome
plan_outcome s plan = outcome_of (here s plan) (named_as s plan.named) plan.codes plan.outcome

-- the state of the machine after
abbrev pub state_after_plan : ShardState → Plan → machine.State
state_after_plan s plan = moved (state_of s) plan.imsi (id_of plan.named) plan.new (plan_outcome s plan)

-- whether a dialogue opens
abbrev pub IsOpening : DialogueChange → Type 0
IsOpening (Opens opening) = Unit {0}
IsOpening _ = ⊥

-- An invocation is forgotten only in a dialogue that is otherwise unchanged.
abbrev pub IsForgetting : Named → DialogueChange → Type 0
IsForgetting (Continued id peer remote) (Forgets invoke) = ⊥
IsForgetting named stays = Unit {0}

-- The id for a dialogue that opens: the next id, if there is one; if the named dialogue closes in the same step, the next id
-- after that.
abbrev pub IsNextId : ShardState → Named → (new : List ℕ) → Type 0
IsNextId s named new = after (id_of named)
  where
    after : Option (List ℕ) → Type 0
    after None = IfSome (next_of s.dialogues) (λ id. (id ≡ new) × IsNew s.dialogues id)
    after (Some id) = (new ≡ next_use id) × IsNew s.dialogues new

-- The plan can be carried out: the dialogue is open; the record may be written so; the new codes are allowed; what opens or
-- changes a dialogue has a subscriber.
pub record CanSettle (s : ShardState) (plan : Plan) : Type 0 where
  pub is_open : IfSome (id_of plan.named) (λ id. dialogues_of s.dialogues id ≢ None)
  pub writable : CanBeWritten plan.outcome.after (record_at s.records plan.imsi)
  pub codes : plan.outcome.after ≡ NewCodes → AreAllowed plan.codes
  pub forgetting : IsForgetting plan.named plan.outcome.dialogue
  pub next_id : IsNextId s plan.named plan.new
  pub concerned : plan.imsi ≡ None → (plan.named ≡ Nothing) × (IsOpening plan.outcome.dialogue → ⊥)

-- There is room: a dialogue that would open beside the open ones has an id.
abbrev pub HasRoom : ShardState → Plan → Type 0
HasRoom s plan = IsOpening plan.outcome.dialogue → id_of plan.named ≡ None → next_of s.dialogues ≢ None

-- A dialogue would open beside the open ones, and the shard is full.
pub record Overflows (s : ShardState) (plan : Plan) : Type 0 where
  pub opens : IsOpening plan.outcome.dialogue
  pub beside : id_of plan.named ≡ None
  pub full : IsFull (state_of s) s.shard
