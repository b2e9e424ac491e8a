-- The expiry of one timer of an open dialogue (Q.774, invocation timer and reject timer; TS 29.002).
use Rattle.std.specs.Prelude.{ℕ, ℤ, ◌+◌, List, [], ◌∷◌, ◌++◌, Bool, false, cond, not, ◌&&◌, ◌||◌, nat_lt, Option, Some, None}
use Rattle.std.specs.Ordering.{int_eq}
use Rattle.machine.specs.Keys.{same}
use Rattle.machine.specs.declared.numbers.TheConstants.{MAX_ATTEMPTS}
use Rattle.machine.specs.Received.{Register}
use Rattle.machine.specs.Sent.{CancellationType}
use Rattle.machine.specs.State.{Subscriber, Was, OperationSent, WaitForReject, Invocation, Kind, Updates, Cancels, Data, Dialogue, Local}
use Rattle.machine.specs.Outcome.{Outcome, cancel, cancel_begin, end_in_dialogue}
use Rattle.machine.specs.Dialogues.{update_fails}

-- without the invocation of this id
abbrev pub without : ℤ → List Invocation → List Invocation
without id [] = []
without id (v ∷ vs) = cond (int_eq v.id id) vs (v ∷ without id vs)

-- whether these are the digits of the register
abbrev pub is_register : (vlr : List ℕ) → Option Register → Bool
is_register vlr None = false
is_register vlr (Some register) = same register.vlr vlr

-- the register of an update
abbrev pub register_of : Option Dialogue → Option Register
register_of None = None
register_of (Some dialogue) = of_kind dialogue.kind
  where
    of_kind : Kind → Option Register
    of_kind (Updates register invoke) = Some register
    of_kind _ = None

-- the register of the subscriber's current update
abbrev pub current_register : Local → (current : Option (List ℕ)) → Option Register
current_register here None = None
current_register here (Some current) = register_of (here.dialogues current)

-- whether the digits are those of the serving register, purged or not, or of the current update's
abbrev pub is_wanted : Local → (vlr : List ℕ) → Option Subscriber → Bool
is_wanted here vlr None = false
is_wanted here vlr (Some subscriber) =
    is_register vlr subscriber.register || is_register vlr (current_register here subscriber.current)

-- whether a cancel is sent again (profile)
abbrev pub is_repeated : Local → (vlr : List ℕ) → (attempt : ℕ) → Bool
is_repeated here vlr attempt = nat_lt attempt MAX_ATTEMPTS && not (is_wanted here vlr here.record_of)

-- A cancel that is not answered ends, with an End if it is Active. It is sent again to the same digits as the next attempt,
-- unless it was the last one or the register there is wanted.
abbrev pub cancel_expires : Local → Dialogue → (vlr : List ℕ) → (attempt : ℕ) → CancellationType → (new : List ℕ)
    → Outcome
cancel_expires here dialogue vlr attempt cause new = record {
  after = here.record_of;
  stays = None;
  opens = cond (is_repeated here vlr attempt) (Some (cancel here vlr (attempt + 1) cause)) None;
  sent =
      end_in_dialogue dialogue.transaction dialogue.transaction.remote [] []
      ++ cond (is_repeated here vlr attempt) (cancel_begin here vlr cause new) [];
}

-- An expiry in Operation Sent (Q.771, TC-L-CANCEL) ends the dialogue. New subscriber data is not sent again.
abbrev pub sent_expires : Local → List ℕ → Dialogue → Kind → (new : List ℕ) → Outcome
sent_expires here id dialogue (Updates register invoke) new = update_fails here id dialogue invoke []
sent_expires here id dialogue (Cancels vlr attempt cause) new = cancel_expires here dialogue vlr attempt cause new
sent_expires here id dialogue Data new = record {
  after = here.record_of;
  stays = None;
  opens = None;
  sent = end_in_dialogue dialogue.transaction dialogue.transaction.remote [] [];
}

-- An expiry in Wait for Reject: the invocation is forgotten.
abbrev pub expires : Local → List ℕ → Dialogue → (invoke : ℤ) → Was → (new : List ℕ) → Outcome
expires here id dialogue invoke OperationSent new = sent_expires here id dialogue dialogue.kind new
expires here id dialogue invoke WaitForReject new = record {
  after = here.record_of;
  stays = Some (record dialogue { invocations = without invoke dialogue.invocations });
  opens = None;
  sent = [];
}
