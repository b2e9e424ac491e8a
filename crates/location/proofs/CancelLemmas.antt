-- The outcomes after which a cancel may follow.
use Rattle.std.proofs.Common.{◌≡◌, ◌+◌, ℕ, List, [], ◌++◌, Bool, true, false, cond, Option, Some, None, refl}
use Rattle.std.proofs.lemmas.List.{append-nil}
use Rattle.machine.specs.Keys.{same}
use Rattle.machine.specs.Received.{Register}
use Rattle.machine.specs.Sent.{Out, UpdateProcedure}
use Rattle.machine.specs.State.{Dialogue, Local, Subscriber}
use Rattle.machine.specs.Outcome.{cancel, cancel_begin, end_in_dialogue}
use Rattle.machine.specs.Dialogues.{update_done}
use Rattle.machine.specs.Expiries.{cancel_expires, is_repeated, is_wanted}
use Rattle.machine.specs.Changes.{withdraw_from}
use Rattle.mapargs_loc.specs.Seen.{cancellation}
use Rattle.mapargs_loc.specs.declared.cancel.CancellationType.TheVariants as causes
use Rattle.location.specs.declared.cancels.Cancelling.{Cancelling}
use Rattle.location.specs.Cancelling.{again, then_cancel, to_last, to_old}

module _ (here : Local) (new : List ℕ) where
  pub done_is : (register : Register) (s : Subscriber) (sent : List Out) (old : Option Register)
      → then_cancel here (Some (record s { register = Some register; purged = false; current = None })) sent (to_old register old) new
      ≡ update_done here register s sent new old
  done_is register s sent None = λ i. record {
    after = Some (record s { register = Some register; purged = false; current = None });
    stays = None;
    opens = None;
    sent = append-nil sent i;
  }
  done_is register s sent (Some old) = by_test (same old.vlr register.vlr)
    where
      by_test : (b : Bool) → then_cancel here (Some (record s { register = Some register; purged = false; current = None })) sent
          (cond b None (Some (record { vlr = old.vlr; attempt = 1; why = causes.UpdateProcedure }))) new
          ≡ record {
            after = Some (record s { register = Some register; purged = false; current = None });
            stays = None;
            opens = cond b None
                (Some (cancel here old.vlr 1 UpdateProcedure));
            sent = sent ++ cond b [] (cancel_begin here old.vlr UpdateProcedure new);
          }
      by_test true = refl
      by_test false = refl

  pub withdrawn_is : (s : Subscriber) (old : Option Register)
      → then_cancel here (Some (record s { register = None; purged = false; current = None; withdrawn = true })) [] (to_last old) new
      ≡ withdraw_from here s new old
  withdrawn_is s None = refl
  withdrawn_is s (Some register) = refl

  pub expired_is : (d : Dialogue) (last : Cancelling)
      → then_cancel here here.record_of (end_in_dialogue d.transaction d.transaction.remote [] []) (again last (is_wanted here last.vlr here.record_of)) new
      ≡ cancel_expires here d last.vlr last.attempt (cancellation last.why) new
  expired_is d last = by_test (is_repeated here last.vlr last.attempt)
    where
      by_test : (b : Bool) → then_cancel here here.record_of (end_in_dialogue d.transaction d.transaction.remote [] [])
          (cond b (Some (record last { attempt = last.attempt + 1 })) None) new
          ≡ record {
            after = here.record_of;
            stays = None;
            opens = cond b (Some (cancel here last.vlr (last.attempt + 1) (cancellation last.why))) None;
            sent = end_in_dialogue d.transaction d.transaction.remote [] [] ++ cond b (cancel_begin here last.vlr (cancellation last.why) new) [];
          }
      by_test true = refl
      by_test false = refl
