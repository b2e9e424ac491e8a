-- An operator's change of one subscriber (profile): new subscriber data (TS 29.002, 8.8.1, MAP-INSERT-SUBSCRIBER-DATA), or
-- the end of the subscription (8.1.3, MAP_CANCEL_LOCATION).
use Rattle.std.specs.Prelude.{ℕ, List, [], true, false, cond, Option, Some, None}
use Rattle.machine.specs.Received.{Register}
use Rattle.machine.specs.Sent.{SubscriptionWithdraw, SubscriberDataMngt, SentBegin}
use Rattle.machine.specs.Events.{Change, Codes, Withdraw}
use Rattle.machine.specs.State.{Subscriber, Data, Dialogue, Local}
use Rattle.machine.specs.Outcome.{Outcome, send, unchanged, inserts_invoked, inserts, cancel, cancel_begin}

-- the dialogue that carries new codes to a register
abbrev pub data_to : Local → Register → (codes : List ℕ) → Dialogue
data_to here register codes = record {
  subscriber = here.imsi;
  transaction = record { peer = register.vlr; remote = None };
  invocations = inserts_invoked here.clock codes;
  kind = Data;
}

-- New codes: an update in progress is no longer current, and a register that is not purged is sent the codes.
abbrev pub codes_to : Local → Subscriber → (codes : List ℕ) → (new : List ℕ) → Option Register → Outcome
codes_to here subscriber codes new None = record {
  after = Some (record subscriber { codes = codes; current = None });
  stays = None;
  opens = None;
  sent = [];
}
codes_to here subscriber codes new (Some register) = record {
  after = Some (record subscriber { codes = codes; current = None });
  stays = None;
  opens = cond subscriber.purged None (Some (data_to here register codes));
  sent =
      cond subscriber.purged [] (send register.vlr (SentBegin new SubscriberDataMngt (inserts (Some here.imsi) subscriber.msisdn codes)));
}

-- The end of a subscription: the record loses its register, and that register, purged or not, is sent a cancel.
abbrev pub withdraw_from : Local → Subscriber → (new : List ℕ) → Option Register → Outcome
withdraw_from here subscriber new None = record {
  after = Some (record subscriber { register = None; purged = false; current = None; withdrawn = true });
  stays = None;
  opens = None;
  sent = [];
}
withdraw_from here subscriber new (Some register) = record {
  after = Some (record subscriber { register = None; purged = false; current = None; withdrawn = true });
  stays = None;
  opens = Some (cancel here register.vlr 1 SubscriptionWithdraw);
  sent = cancel_begin here register.vlr SubscriptionWithdraw new;
}

-- either change of a subscriber who is not withdrawn
abbrev pub change_to : Local → Subscriber → Change → (new : List ℕ) → Outcome
change_to here subscriber (Codes codes) new = codes_to here subscriber codes new subscriber.register
change_to here subscriber Withdraw new = withdraw_from here subscriber new subscriber.register

-- A change of an unknown or a withdrawn subscriber changes nothing.
abbrev pub changes : Local → Change → Option Subscriber → (new : List ℕ) → Outcome
changes here change None new = unchanged here []
changes here change (Some subscriber) new =
    cond subscriber.withdrawn (unchanged here []) (change_to here subscriber change new)
