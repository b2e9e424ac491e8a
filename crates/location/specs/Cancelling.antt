-- A cancelLocation to be sent, if any (TS 29.002, 8.1.3).
use Rattle.std.specs.Prelude.{ℕ, ◌+◌, List, [], ◌++◌, Bool, cond, not, ◌&&◌, nat_lt, Option, Some, None}
use Rattle.machine.specs.Keys.{same}
use Rattle.machine.specs.declared.numbers.TheConstants.{MAX_ATTEMPTS}
use Rattle.machine.specs.Received.{Register}
use Rattle.machine.specs.State.{Dialogue, Local, Subscriber}
use Rattle.machine.specs.Sent.{Out}
use Rattle.machine.specs.Outcome.{Outcome, cancel, cancel_begin}
use Rattle.mapargs_loc.specs.Seen.{cancellation}
use Rattle.mapargs_loc.specs.declared.cancel.CancellationType.TheVariants.{UpdateProcedure, SubscriptionWithdraw}
use Rattle.location.specs.declared.cancels.Cancelling.{Cancelling}

-- the dialogue that opens
abbrev pub cancel_opens : Local → Option Cancelling → Option Dialogue
cancel_opens here None = None
cancel_opens here (Some c) = Some (cancel here c.vlr c.attempt (cancellation c.why))

-- and its Begin
abbrev pub cancel_sent : Local → Option Cancelling → (new : List ℕ) → List Out
cancel_sent here None new = []
cancel_sent here (Some c) new = cancel_begin here c.vlr (cancellation c.why) new

-- The named dialogue, if any, closes; these messages are sent, and then the cancel.
abbrev pub then_cancel : Local → (after : Option Subscriber) → (sent : List Out) → Option Cancelling → (new : List ℕ) → Outcome
then_cancel here after sent next new = record {
  after = after;
  stays = None;
  opens = cancel_opens here next;
  sent = sent ++ cancel_sent here next new;
}

-- The cancel to the old register after an update, if its digits differ.
abbrev pub to_old : (register : Register) → (old : Option Register) → Option Cancelling
to_old register None = None
to_old register (Some old) = cond (same old.vlr register.vlr) None (Some (record { vlr = old.vlr; attempt = 1; why = UpdateProcedure }))

-- The cancel to the last register of a withdrawn subscriber.
abbrev pub to_last : (register : Option Register) → Option Cancelling
to_last None = None
to_last (Some register) = Some (record { vlr = register.vlr; attempt = 1; why = SubscriptionWithdraw })

-- The next attempt of a cancel, if there is one and its register is not wanted.
abbrev pub again : Cancelling → (wanted : Bool) → Option Cancelling
again last wanted = cond (nat_lt last.attempt MAX_ATTEMPTS && not wanted) (Some (record last { attempt = last.attempt + 1 })) None
