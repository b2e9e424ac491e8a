-- A received Continue, End or Abort of an open dialogue (TS 29.002; TS 23.012, Location updating).
use Rattle.std.specs.Prelude.{ℕ, ℤ, List, [], ◌∷◌, ◌++◌, false, cond, Option, Some, None}
use Rattle.machine.specs.Keys.{same}
use Rattle.machine.specs.declared.numbers.TheConstants.{UPDATE_LOCATION, SYSTEM_FAILURE}
use Rattle.machine.specs.Received.{Register, Component}
use Rattle.machine.specs.Sent.{UpdateProcedure, Rejection, UpdateResult, SentError, Out}
use Rattle.machine.specs.State.{Subscriber, Invocation, Kind, Updates, Cancels, Data, Dialogue, Local}
use Rattle.machine.specs.Effect.{Offer, Effect, effect, Conclusion, HasFailed, HasSucceeded, GoesOn}
use Rattle.machine.specs.Outcome.{Outcome, cancel, cancel_begin, end_in_dialogue, continue_in_dialogue, is_marked, unmarked}

-- the dialogue ends, and of the record only the mark changes
abbrev pub ends : Local → List ℕ → List Out → Outcome
ends here id sent = record { after = unmarked id here.record_of; stays = None; opens = None; sent = sent }

-- An update that fails, or is not the current one, ends with systemFailure, and the register stays.
abbrev pub update_fails : Local → List ℕ → Dialogue → (invoke : ℤ) → List Rejection → Outcome
update_fails here id dialogue invoke rejects =
    ends here id (end_in_dialogue dialogue.transaction dialogue.transaction.remote rejects (SentError invoke SYSTEM_FAILURE ∷ []))

-- The current update completes: its register serves from now on. An old register with other digits, purged or not, is sent
-- a cancel (TS 23.012, Location cancellation); its Begin follows the End (profile).
abbrev pub update_done : Local → Register → Subscriber → (result : List Out) → (new : List ℕ)
    → (old : Option Register) → Outcome
update_done here register subscriber result new None = record {
  after = Some (record subscriber { register = Some register; purged = false; current = None });
  stays = None;
  opens = None;
  sent = result;
}
update_done here register subscriber result new (Some old) = record {
  after = Some (record subscriber { register = Some register; purged = false; current = None });
  stays = None;
  opens = cond (same old.vlr register.vlr) None (Some (cancel here old.vlr 1 UpdateProcedure));
  sent = result ++ cond (same old.vlr register.vlr) [] (cancel_begin here old.vlr UpdateProcedure new);
}

-- An update whose inserts have all succeeded completes only if it is the current one. (The subscriber of a dialogue has a
-- record.)
abbrev pub update_completes : Local → List ℕ → Dialogue → Register → (invoke : ℤ) → List Rejection → (new : List ℕ)
    → Option Subscriber → Outcome
update_completes here id dialogue register invoke rejects new None = update_fails here id dialogue invoke rejects
update_completes here id dialogue register invoke rejects new (Some subscriber) =
    cond (is_marked subscriber.current id)
    (update_done here register subscriber
    (end_in_dialogue dialogue.transaction dialogue.transaction.remote rejects (UpdateResult invoke here.hlr ∷ [])) new subscriber.register)
    (update_fails here id dialogue invoke rejects)

-- the dialogue goes on with these invocations
abbrev pub goes_on : Local → List ℕ → Dialogue → List Rejection → List Invocation → Outcome
goes_on here id dialogue rejects invocations = record {
  after = here.record_of;
  stays = Some (record dialogue { invocations = invocations });
  opens = None;
  sent = continue_in_dialogue id dialogue.transaction dialogue.transaction.remote rejects;
}

-- an update, by the state of its inserts
abbrev pub update_continues : Local → List ℕ → Dialogue → Register → (invoke : ℤ) → Effect → Conclusion
    → (new : List ℕ) → Outcome
update_continues here id dialogue register invoke effect HasFailed new =
    update_fails here id dialogue invoke effect.rejects
update_continues here id dialogue register invoke effect HasSucceeded new =
    update_completes here id dialogue register invoke effect.rejects new here.record_of
update_continues here id dialogue register invoke effect GoesOn new =
    goes_on here id dialogue effect.rejects effect.invocations

-- Both success and failure end a cancel or a data dialogue.
abbrev pub other_continues : Local → List ℕ → Dialogue → Effect → Conclusion → Outcome
other_continues here id dialogue effect GoesOn = goes_on here id dialogue effect.rejects effect.invocations
other_continues here id dialogue effect _ = record {
  after = here.record_of;
  stays = None;
  opens = None;
  sent = end_in_dialogue dialogue.transaction dialogue.transaction.remote effect.rejects [];
}

-- a dialogue, by its kind
abbrev pub continues_as : Local → List ℕ → Dialogue → Kind → Effect → (new : List ℕ) → Outcome
continues_as here id dialogue (Updates register invoke) effect new =
    update_continues here id dialogue register invoke effect effect.conclusion new
continues_as here id dialogue (Cancels vlr attempt cause) effect new =
    other_continues here id dialogue effect effect.conclusion
continues_as here id dialogue Data effect new = other_continues here id dialogue effect effect.conclusion

-- In an update the peer's updateLocation is still open, and no other Invoke may start; in the other dialogues the peer may
-- invoke nothing.
abbrev pub offer_to : Kind → Offer
offer_to (Updates register invoke) =
    record { open_id = Some invoke; operation = Some UPDATE_LOCATION; may_start = false; typed = false }
offer_to (Cancels vlr attempt cause) = record { open_id = None; operation = None; may_start = false; typed = false }
offer_to Data = record { open_id = None; operation = None; may_start = false; typed = false }

-- A Continue for the dialogue, which already has the peer and the remote id that the Continue sets.
abbrev pub continues : Local → List ℕ → Dialogue → List Component → (new : List ℕ) → Outcome
continues here id dialogue components new =
    continues_as here id dialogue dialogue.kind (effect here.clock (offer_to dialogue.kind) dialogue.invocations components) new

-- An End or an Abort: the dialogue is gone, whatever components the End carries, and nothing is sent.
abbrev pub closes : Local → List ℕ → Outcome
closes here id = ends here id []
