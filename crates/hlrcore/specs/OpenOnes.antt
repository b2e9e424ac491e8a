-- The open dialogue that an event is for (Q.774), and its plan.
use Rattle.std.specs.Prelude.{◌≡◌, ◌≢◌, ℕ, List, [], Option, Some, None}
use Rattle.machine.specs.State as machine
use Rattle.tidalloc.specs.LiveIds.{next_use}
use Rattle.tsl.specs.declared.received.Head.{Head}
use Rattle.tsl.specs.declared.received.Received.TheVariants.{For}
use Rattle.tsl.specs.Received.{destination_of}
use Rattle.dialogues.specs.Dialogues.{OpenDialogues, IsNew, dialogues_of, invocations_in}
use Rattle.dialogues.specs.Looking.{looked}
use Rattle.dialogues.specs.Seen.{dialogue_with}
use Rattle.location.specs.declared.outcome.Outcome.{Outcome}
use Rattle.hlrcore.specs.declared.plan.Named.{Named}
use Rattle.hlrcore.specs.declared.plan.Plan.{Plan}
use Rattle.hlrcore.specs.declared.opened.Opened.{Opened}

-- The dialogue, as the machine has it.
abbrev pub seen_as : OpenDialogues → Opened → machine.Dialogue
seen_as d o = dialogue_with (invocations_in (dialogues_of d o.id)) o.dialogue

-- The same with this transaction.
abbrev pub with_transaction : OpenDialogues → Opened → machine.Transaction → machine.Dialogue
with_transaction d o t = record (seen_as d o) { transaction = t }

-- It is open under its id, and `new` is the id for a dialogue that opens as it closes.
pub record IsOpened (d : OpenDialogues) (o : Opened) : Type 0 where
  pub is_open : dialogues_of d o.id ≡ Some (seen_as d o)
  pub next : o.new ≡ next_use o.id
  pub is_new : IsNew d o.new

-- The open dialogue with this id, if there is one.
abbrev pub IsOpenAt : OpenDialogues → (id : List ℕ) → Option Opened → Type 0
IsOpenAt d id None = dialogues_of d id ≡ None
IsOpenAt d id (Some o) = (o.id ≡ id) × IsOpened d o

-- The open dialogue that a received message is for.
pub record IsForIt (d : OpenDialogues) (head : Head) (o : Opened) : Type 0 where
  pub at : o.id ≡ destination_of head
  pub opened : IsOpened d o
  pub told : (from : List ℕ) → looked from head (dialogues_of d (destination_of head)) ≡ For (destination_of head)

-- The same, or the message is for none.
abbrev pub IsFor : OpenDialogues → Head → Option Opened → Type 0
IsFor d head None = (from : List ℕ) → looked from head (dialogues_of d (destination_of head)) ≢ For (destination_of head)
IsFor d head (Some o) = IsForIt d head o

-- A plan for an open dialogue of this subscriber, without codes.
pub record IsPlanFor (subscriber : List ℕ) (named : Named) (new : List ℕ) (outcome : Outcome) (plan : Plan) : Type 0 where
  pub imsi_is : plan.imsi ≡ Some subscriber
  pub subject_is : plan.subject ≡ Some subscriber
  pub named_is : plan.named ≡ named
  pub new_is : plan.new ≡ new
  pub outcome_is : plan.outcome ≡ outcome
  pub no_codes : plan.codes ≡ []
