-- New codes, by the serving register.
use Rattle.std.proofs.Common.{◌≡◌, ℕ, List, [], Bool, false, cond, Option, Some, None, sym, ap, ◌∙◌}
use Rattle.machine.specs.Received.{Register}
use Rattle.machine.specs.Sent.{SentBegin, SubscriberDataMngt}
use Rattle.machine.specs.State.{Subscriber, Local}
use Rattle.machine.specs.Outcome.{Outcome, inserts, send}
use Rattle.machine.specs.Changes.{codes_to, data_to}

-- by whether it has purged the subscriber
abbrev pub told_if : Local → Subscriber → (codes new : List ℕ) → Register → (purged : Bool) → Outcome
told_if here s codes new register purged = record {
  after = Some (record s { codes = codes; current = None });
  stays = None;
  opens = cond purged None (Some (data_to here register codes));
  sent = cond purged [] (send register.vlr (SentBegin new SubscriberDataMngt (inserts (Some here.imsi) s.msisdn codes)));
}

-- a register that has not gets the data
pub codes_told : (here : Local) (s : Subscriber) (codes new : List ℕ) (register : Register) (old : Option Register) → old ≡ Some register → s.purged ≡ false
    → told_if here s codes new register false ≡ codes_to here s codes new old
codes_told here s codes new register old is purged =
    ap (told_if here s codes new register) (sym purged) ∙ ap (codes_to here s codes new) (sym is)
