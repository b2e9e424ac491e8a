-- The outcome of a procedure on one subscriber, and what the procedures have in common.
use Rattle.std.specs.Prelude.{ℕ, zero, suc, ℤ, pos, ◌+◌, ◌-◌, ◌*◌, ◌/◌, List, [], ◌∷◌, ◌++◌, map, take, drop, length, Bool, false, cond, Option, Some, None}
use Rattle.machine.specs.Keys.{same}
use Rattle.machine.specs.declared.numbers.TheConstants.{INVOCATION_TIMER, MAX_CODES_IN_INSERT}
use Rattle.machine.specs.Sent.{CancellationType, LocationCancellation, Rejection, SentComponent, Insert, Cancel, SentMessage, SentBegin, SentContinue, SentEnd, Out}
use Rattle.machine.specs.State.{Subscriber, Transaction, OperationSent, Invocation, Cancels, Dialogue, Local}

-- The record after; the dialogue that the event names after it (`None`: it is gone, or none is named); a dialogue that opens
-- under the new id; and what is sent, in order. The new id is a procedure's only free choice.
pub record Outcome : Type 0 where
  pub after : Option Subscriber
  pub stays : Option Dialogue
  pub opens : Option Dialogue
  pub sent : List Out

-- one message to one address
abbrev pub send : List ℕ → SentMessage → List Out
send to message = record { to = to; message = message } ∷ []

-- nothing changes, and this is sent
abbrev pub unchanged : Local → List Out → Outcome
unchanged here sent = record { after = here.record_of; stays = None; opens = None; sent = sent }

-- own invocations

-- an invocation in Operation Sent, invoked now
abbrev pub invoked : ℕ → ℤ → Invocation
invoked now id = record { id = id; was = OperationSent; deadline = now + INVOCATION_TIMER }

-- 0 up to n - 1
abbrev pub below : ℕ → List ℕ
below zero = []
below (suc k) = below k ++ k ∷ []

-- the number of inserts after the first, which is always sent
abbrev pub further : List ℕ → ℕ
further codes = (length codes - 1) / MAX_CODES_IN_INSERT

-- the invocations of the inserts
abbrev pub inserts_invoked : ℕ → List ℕ → List Invocation
inserts_invoked now codes = invoked now (pos 1) ∷ map (λ k. invoked now (pos (k + 2))) (below (further codes))

-- The subscriber data (TS 29.002, 8.8.1, MAP-INSERT-SUBSCRIBER-DATA): the codes in order, eight to an insert, and the MSISDN
-- in the first. The IMSI is included if no update names the subscriber.
abbrev pub inserts : (imsi : Option (List ℕ)) → (msisdn codes : List ℕ) → List SentComponent
inserts imsi msisdn codes =
    Insert (pos 1) imsi (Some msisdn) (take MAX_CODES_IN_INSERT codes)
    ∷ map (λ k. Insert (pos (k + 2)) imsi None (take MAX_CODES_IN_INSERT (drop (MAX_CODES_IN_INSERT * (k + 1)) codes))) (below (further codes))

-- The dialogue of a cancel to these VLR digits (TS 29.002, 8.1.3, MAP_CANCEL_LOCATION).
abbrev pub cancel : Local → List ℕ → (attempt : ℕ) → CancellationType → Dialogue
cancel here vlr attempt cause = record {
  subscriber = here.imsi;
  transaction = record { peer = vlr; remote = None };
  invocations = invoked here.clock (pos 1) ∷ [];
  kind = Cancels vlr attempt cause;
}

-- and the Begin that carries it
abbrev pub cancel_begin : Local → List ℕ → CancellationType → (new : List ℕ) → List Out
cancel_begin here vlr cause new = send vlr (SentBegin new LocationCancellation (Cancel (pos 1) here.imsi cause ∷ []))

-- what is sent in a dialogue

-- an End, if the dialogue is Active
abbrev pub end_in_dialogue : Transaction → (remote : Option (List ℕ)) → List Rejection → List SentComponent → List Out
end_in_dialogue t None rejects components = []
end_in_dialogue t (Some remote) rejects components = send t.peer (SentEnd remote None rejects components)

-- a Continue, if there is a Reject to send; the received Continue has made the dialogue Active
abbrev pub continue_in_dialogue : List ℕ → Transaction → (remote : Option (List ℕ)) → List Rejection → List Out
continue_in_dialogue id t remote [] = []
continue_in_dialogue id t None (r ∷ rs) = []
continue_in_dialogue id t (Some remote) (r ∷ rs) = send t.peer (SentContinue id remote None (r ∷ rs) [])

-- the mark of the current update

-- whether the mark is that of this dialogue
abbrev pub is_marked : (current : Option (List ℕ)) → List ℕ → Bool
is_marked None id = false
is_marked (Some current) id = same current id

-- the record, without the mark if it is this dialogue's
abbrev pub unmarked : List ℕ → Option Subscriber → Option Subscriber
unmarked id None = None
unmarked id (Some subscriber) =
    Some (cond (is_marked subscriber.current id) (record subscriber { current = None }) subscriber)
