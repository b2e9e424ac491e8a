-- The whole state of the register: its subscribers (TS 23.012), and its dialogues with their transactions and invocations
-- (Q.774).
use Rattle.std.specs.Prelude.{◌≡◌, ◌≢◌, ℕ, ℤ, List, [], ◌∷◌, Bool, true, false, cond, Option, Some, None, length, slice_index}
use Rattle.octets.specs.Octets.{AreOctets}
use Rattle.machine.specs.Keys.{same, shard_of_id, Every, AreDifferent}
use Rattle.machine.specs.declared.numbers.TheConstants.{MAX_DIALOGUES}
use Rattle.machine.specs.Received.{Register}
use Rattle.machine.specs.Sent.{CancellationType}

-- A subscriber's record; its key is the IMSI. `roam` has the prefixes of the VLR numbers that are allowed, or `None` if all
-- are. `current` is the local id of the latest update, which alone may complete.
pub record Subscriber : Type 0 where
  pub msisdn : List ℕ
  pub codes : List ℕ
  pub roam : Option (List (List ℕ))
  pub register : Option Register
  pub purged : Bool
  pub current : Option (List ℕ)
  pub withdrawn : Bool

-- A transaction (Q.774, transaction sublayer): Active if the peer's id is known, otherwise Initiation Sent.
pub record Transaction : Type 0 where
  pub peer : List ℕ
  pub remote : Option (List ℕ)

-- The state of an own invocation that is not Idle (Q.774, operations of class 1).
pub data Was : Type 0 where
  OperationSent : Was
  WaitForReject : Was

-- an own invocation: its invoke id, its state, and when its timer expires
pub record Invocation : Type 0 where
  pub id : ℤ
  pub was : Was
  pub deadline : ℕ

-- The kind of a dialogue: an update, with the register of its argument and the invoke id that the peer waits for; a cancel,
-- with the VLR digits it is sent to; or new subscriber data.
pub data Kind : Type 0 where
  Updates : Register → (invoke : ℤ) → Kind
  Cancels : (vlr : List ℕ) → (attempt : ℕ) → CancellationType → Kind
  Data : Kind

-- An open dialogue. Its invocations are in rising order of their ids.
pub record Dialogue : Type 0 where
  pub subscriber : List ℕ
  pub transaction : Transaction
  pub invocations : List Invocation
  pub kind : Kind

-- Records by IMSI, dialogues by local id, and a clock for each shard. The directory (IMSI by MSISDN) and the register's own
-- number never change.
pub record State : Type 0 where
  pub records : List ℕ → Option Subscriber
  pub dialogues : List ℕ → Option Dialogue
  pub clocks : ℕ → ℕ
  pub directory : List ℕ → Option (List ℕ)
  pub hlr : List ℕ

-- whether an invocation in this state waits for its answer
abbrev pub is_sent : Was → Bool
is_sent OperationSent = true
is_sent WaitForReject = false

-- whether an invocation is in Operation Sent
abbrev pub any_sent : List Invocation → Bool
any_sent [] = false
any_sent (v ∷ vs) = cond (is_sent v.was) true (any_sent vs)

-- the dialogue, if it is this subscriber's
abbrev pub if_of : List ℕ → Option Dialogue → Option Dialogue
if_of imsi None = None
if_of imsi (Some dialogue) = cond (same dialogue.subscriber imsi) (Some dialogue) None

-- What a procedure on one subscriber sees of the state: the record, this subscriber's dialogues, the clock of the shard and
-- the register's own number.
pub record Local : Type 0 where
  pub imsi : List ℕ
  pub record_of : Option Subscriber
  pub dialogues : List ℕ → Option Dialogue
  pub clock : ℕ
  pub hlr : List ℕ

-- what a procedure on this subscriber sees
unfoldable pub local_of : State → ℕ → List ℕ → Local
local_of S shard imsi = record {
  imsi = imsi;
  record_of = S.records imsi;
  dialogues = λ id. if_of imsi (S.dialogues id);
  clock = S.clocks shard;
  hlr = S.hlr;
}

-- what it sees if there is no subscriber
unfoldable pub local_of_nobody : State → ℕ → Local
local_of_nobody S shard = record {
  imsi = [];
  record_of = None;
  dialogues = λ id. None;
  clock = S.clocks shard;
  hlr = S.hlr;
}

-- A local id of a shard: four octets, the shard's number first, then three that are not all zero (profile).
pub record IsIdOf (n : ℕ) (i : List ℕ) : Type 0 where
  pub four : length i ≡ 4
  pub octets : AreOctets i
  pub shard : shard_of_id i ≡ n
  pub not_zero : (slice_index i 1 ≡ 0 × slice_index i 2 ≡ 0 × slice_index i 3 ≡ 0) → ⊥

-- different ids of open dialogues of a shard
pub record AreOpen (S : State) (n : ℕ) (is : List (List ℕ)) : Type 0 where
  pub different : AreDifferent is
  pub open_ones : Every (λ i. (shard_of_id i ≡ n) × (S.dialogues i ≢ None)) is

-- the shard is full: it has the most open dialogues that it may have
abbrev pub IsFull : State → ℕ → Type 0
IsFull S n = (is : List (List ℕ)) × AreOpen S n is × (length is ≡ MAX_DIALOGUES)
