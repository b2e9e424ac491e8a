-- What an event leads to in a state: the procedure, and the dialogue that it is for.
use Rattle.std.specs.Prelude.{◌≡◌, ℕ, ℤ, ◌≤◌, List, [], ◌∷◌, false, cond, Option, Some, None}
use Rattle.std.specs.declared.cmp.Ordering.{Ordering}
use Rattle.std.specs.Ordering.{nat_cmp, int_cmp, int_eq, ordering_then, is_gt}
use Rattle.std.specs.Cmp.Lexicographic.{slice_cmp}
use Rattle.machine.specs.Keys.{shard_of_id}
use Rattle.machine.specs.declared.numbers.TheConstants.{UNRECOGNIZED_TRANSACTION_ID}
use Rattle.machine.specs.Received.{Component, Message, Begin, Continue, End, Abort, Verdict, Discard, Refuse, Read}
use Rattle.machine.specs.Sent.{Cause, SentAbort, Out}
use Rattle.machine.specs.Events.{Change, Event, Frame, Clock, Expire, Operator}
use Rattle.machine.specs.State.{Transaction, Was, Invocation, Dialogue, State}
use Rattle.machine.specs.Transactions.{transact, ContinueComes, Row, Disposition, ForIt}
use Rattle.machine.specs.Outcome.{send}
use Rattle.machine.specs.Routing.{subject_of_begin}

-- What is to be done: only to answer, to set a clock, or one of five procedures.
pub data Turn : Type 0 where
  Dismissed : List Out → Turn  -- nothing changes, and this is sent
  Ticks : (shard now : ℕ) → Turn
  Begins : (from origin : List ℕ) → (name : Option (List ℕ)) → List Component → Turn
  Continues : (id : List ℕ) → Dialogue → List Component → Turn  -- the dialogue has its peer and remote id already
  Closes : (id : List ℕ) → Dialogue → Turn
  Expires : (id : List ℕ) → Dialogue → (invoke : ℤ) → Was → Turn
  Changes : (imsi : List ℕ) → Change → Turn

-- The transaction after a Continue, if the transaction table says that the Continue is for the dialogue.
abbrev pub if_for_it : Disposition → Option Transaction → Option Transaction
if_for_it ForIt t = t
if_for_it _ t = None

-- the same of a row
abbrev pub for_it : Option Row → Option Transaction
for_it None = None
for_it (Some row) = if_for_it row.disposition row.after

-- a Continue with the id of an open dialogue
abbrev pub continue_for : (from origin id : List ℕ) → List Component → Dialogue → Option Transaction → Turn
continue_for from origin id components dialogue None =
    Dismissed (send from (SentAbort origin (Cause UNRECOGNIZED_TRANSACTION_ID)))
continue_for from origin id components dialogue (Some t) =
    Continues id (record dialogue { transaction = t }) components

-- a Continue, whether a dialogue is open under its id or not
abbrev pub continue_at : (from origin id : List ℕ) → List Component → Option Dialogue → Turn
continue_at from origin id components None =
    Dismissed (send from (SentAbort origin (Cause UNRECOGNIZED_TRANSACTION_ID)))
continue_at from origin id components (Some dialogue) =
    continue_for from origin id components dialogue (for_it (transact (Some dialogue.transaction) (ContinueComes from origin)))

-- an End or an Abort; without an open dialogue it is discarded
abbrev pub close_at : List ℕ → Option Dialogue → Turn
close_at id None = Dismissed []
close_at id (Some dialogue) = Closes id dialogue

-- a received message
abbrev pub turn_of_message : (dialogues : List ℕ → Option Dialogue) → (from : List ℕ) → Message → Turn
turn_of_message dialogues from (Begin origin name components) = Begins from origin name components
turn_of_message dialogues from (Continue origin destination portion components) =
    continue_at from origin destination components (dialogues destination)
turn_of_message dialogues from (End destination portion components) = close_at destination (dialogues destination)
turn_of_message dialogues from (Abort destination) = close_at destination (dialogues destination)

-- a received frame
abbrev pub turn_of_verdict : (dialogues : List ℕ → Option Dialogue) → (from : List ℕ) → Verdict → Turn
turn_of_verdict dialogues from Discard = Dismissed []
turn_of_verdict dialogues from (Refuse origin cause) = Dismissed (send from (SentAbort origin (Cause cause)))
turn_of_verdict dialogues from (Read message) = turn_of_message dialogues from message

-- the invocation with this id
abbrev pub invocation_of : ℤ → List Invocation → Option Invocation
invocation_of id [] = None
invocation_of id (v ∷ vs) = cond (int_eq v.id id) (Some v) (invocation_of id vs)

-- The invocation j of the open dialogue i of shard n is due: its deadline is not after the shard's clock.
pub record IsDue (S : State) (n : ℕ) (i : List ℕ) (d : Dialogue) (j : ℤ) (v : Invocation) : Type 0 where
  pub of_shard : shard_of_id i ≡ n
  pub is_open : S.dialogues i ≡ Some d
  pub stands : invocation_of j d.invocations ≡ Some v
  pub due : v.deadline ≤ S.clocks n

-- the order of what is due: by deadline, then by local id as octets, then by invoke id as a signed number
abbrev pub triple_cmp : ℕ → List ℕ → ℤ → ℕ → List ℕ → ℤ → Ordering
triple_cmp t i j t' i' j' = ordering_then (nat_cmp t t') (ordering_then (slice_cmp nat_cmp i i') (int_cmp j j'))

-- nothing that is due precedes this
abbrev pub IsLeast : State → ℕ → (deadline : ℕ) → (id : List ℕ) → (invoke : ℤ) → Type 0
IsLeast S n t i j =
    (i' : List ℕ) (d' : Dialogue) (j' : ℤ) (v' : Invocation) → IsDue S n i' d' j' v'
    → is_gt (triple_cmp t i j v'.deadline i' j') ≡ false

-- An expiry takes the least of what is due, or nothing is due.
pub data Expiry (S : State) (n : ℕ) (turn : Turn) : Type 0 where
  OneDue : (i : List ℕ) (d : Dialogue) (j : ℤ) (v : Invocation) → IsDue S n i d j v → IsLeast S n v.deadline i j
      → turn ≡ Expires i d j v.was → Expiry S n turn
  NoneDue : ((i : List ℕ) (d : Dialogue) (j : ℤ) (v : Invocation) → IsDue S n i d j v → ⊥) → turn ≡ Dismissed []
      → Expiry S n turn

-- the event leads to this turn
abbrev pub TurnsTo : State → Event → Turn → Type 0
TurnsTo S (Frame from verdict) turn = turn ≡ turn_of_verdict S.dialogues from verdict
TurnsTo S (Clock shard now) turn = turn ≡ Ticks shard now
TurnsTo S (Expire shard) turn = Expiry S shard turn
TurnsTo S (Operator imsi change) turn = turn ≡ Changes imsi change

-- the turn's subscriber
abbrev pub concern : (directory : List ℕ → Option (List ℕ)) → Turn → Option (List ℕ)
concern directory (Dismissed sent) = None
concern directory (Ticks shard now) = None
concern directory (Begins from origin name components) = subject_of_begin directory components
concern directory (Continues id dialogue components) = Some dialogue.subscriber
concern directory (Closes id dialogue) = Some dialogue.subscriber
concern directory (Expires id dialogue invoke was) = Some dialogue.subscriber
concern directory (Changes imsi change) = Some imsi

-- the open dialogue that it is for
abbrev pub named : Turn → Option (List ℕ)
named (Continues id dialogue components) = Some id
named (Closes id dialogue) = Some id
named (Expires id dialogue invoke was) = Some id
named _ = None
