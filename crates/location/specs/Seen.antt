-- Values of the code as values of the definitions.
use Rattle.std.specs.Prelude.{ℕ, ◌-◌, List, [], ◌∷◌, ◌++◌, map, Option, Some, None, option_map, pos, true, false}
use Rattle.std.specs.Borrow.{Bor}
use Rattle.machine.specs.State as machine
use Rattle.machine.specs.State.{Local}
use Rattle.machine.specs.Sent as sent
use Rattle.machine.specs.Outcome as left
use Rattle.machine.specs.Expiries.{without}
use Rattle.machine.specs.Effect as effects
use Rattle.mapargs_loc.specs.Seen.{cancellation}
use Rattle.q773_comp.specs.Seen.{rejection}
use Rattle.csl.specs.declared.offer.Effect.{Effect}
use Rattle.csl.specs.Effects.{concluded}
use Rattle.records.specs.Subscriber.{Subscriber}
use Rattle.smroute.specs.Seen.{machine_subscriber, machine_register}
use Rattle.csl.specs.Tables.{first_invoked}
use Rattle.dialogues.specs.Seen.{dialogue_with}
pub use Rattle.outgoing.specs.Seen.{out, message as said}
use Rattle.outgoing.specs.declared.message.Addressed.{Addressed}
use Rattle.location.specs.declared.outcome.After.{After}
use Rattle.location.specs.declared.outcome.After.TheVariants.{Same, Purged, Location, NewCodes, Withdrawn}
use Rattle.location.specs.declared.outcome.CancelBegin.{CancelBegin}
use Rattle.location.specs.declared.outcome.DialogueChange.{DialogueChange}
use Rattle.location.specs.declared.outcome.DialogueChange.TheVariants.{Closes, Opens, GoesOn, Forgets}
use Rattle.location.specs.declared.outcome.Opening.{Opening}
use Rattle.location.specs.declared.outcome.Outcome.{Outcome}

-- the record that was found, if any
abbrev pub known : Option (Bor Subscriber) → Option machine.Subscriber
known found = option_map (λ s. machine_subscriber s.now) found

-- The record after. `codes` are those of an operator's change.
abbrev pub after_of : (codes : List ℕ) → After → Option machine.Subscriber → Option machine.Subscriber
after_of codes Same before = before
after_of codes Purged before = option_map (λ (s : machine.Subscriber). record s { purged = true }) before
after_of codes (Location register purged current) before =
    option_map (λ (s : machine.Subscriber). record s { register = option_map machine_register register; purged = purged; current = current }) before
after_of codes NewCodes before = option_map (λ (s : machine.Subscriber). record s { codes = codes; current = None }) before
after_of codes Withdrawn before =
    option_map (λ (s : machine.Subscriber). record s { register = None; purged = false; current = None; withdrawn = true }) before

-- The named dialogue after, if it stays. It is given with its transaction as the received message leaves it.
abbrev pub stays_of : Option machine.Dialogue → DialogueChange → Option machine.Dialogue
stays_of named Closes = None
stays_of named (Opens opening) = None
stays_of named (GoesOn left) = option_map (λ (d : machine.Dialogue). record d { invocations = left }) named
stays_of named (Forgets invoke) = option_map (λ (d : machine.Dialogue). record d { invocations = without invoke d.invocations }) named

-- the dialogue that opens at this clock
abbrev pub opening_of : (clock : ℕ) → Opening → machine.Dialogue
opening_of clock o = dialogue_with (first_invoked clock (o.invoked - 1)) o.dialogue

-- the dialogue that opens at this clock, if any
abbrev pub opens_of : (clock : ℕ) → DialogueChange → Option machine.Dialogue
opens_of clock Closes = None
opens_of clock (Opens opening) = Some (opening_of clock opening)
opens_of clock (GoesOn left) = None
opens_of clock (Forgets invoke) = None

-- a message, if any
abbrev pub one : Option Addressed → List sent.Out
one None = []
one (Some o) = out o ∷ []

-- the Begin of a cancel
abbrev pub cancel_out : CancelBegin → sent.Out
cancel_out c = record { to = c.to; message = sent.SentBegin c.origin sent.LocationCancellation (sent.Cancel (pos 1) c.imsi (cancellation c.why) ∷ []) }

-- the Begin of a cancel, if any
abbrev pub one_cancel : Option CancelBegin → List sent.Out
one_cancel None = []
one_cancel (Some c) = cancel_out c ∷ []

-- the messages, in order
abbrev pub sent_of : (message : Option Addressed) (cancel : Option CancelBegin) → List sent.Out
sent_of message None = one message
sent_of message (Some c) = one message ++ cancel_out c ∷ []

-- The outcome as the definitions have it: `named` is the dialogue that the event names, with its transaction as the received
-- message leaves it, and `codes` are those of an operator's change.
abbrev pub outcome_of : Local → (named : Option machine.Dialogue) → (codes : List ℕ) → Outcome → left.Outcome
outcome_of here named codes o = record {
  after = after_of codes o.after here.record_of;
  stays = stays_of named o.dialogue;
  opens = opens_of here.clock o.dialogue;
  sent = sent_of o.message o.cancel;
}

-- The effect of received components.
abbrev pub effect_of : Effect → effects.Effect
effect_of e = record { rejects = map rejection e.rejects.items; started = e.started; invocations = e.left; conclusion = concluded e.conclusion }
