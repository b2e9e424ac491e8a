-- Which open transaction a received message is for (Q.774, transaction sublayer). Source addresses are not compared (profile).
use Rattle.std.specs.Prelude.{◌≡◌, ◌≢◌, ℕ, List, Bool, true, Option, Some, None, if◌then◌else◌}
use Rattle.machine.specs.Keys.{same}
use Rattle.machine.specs.Transactions.{Primitive, ContinueComes, CloseComes, Disposition, ForIt, Unassigned, Row, transact}
use Rattle.tsl.specs.declared.received.Head.{Head}
use Rattle.tsl.specs.declared.received.Head.TheVariants.{Continue, End, Abort}
use Rattle.tsl.specs.declared.received.Received.{Received}
use Rattle.tsl.specs.declared.received.Received.TheVariants.{For, NotAssigned, Nothing}
use Rattle.machine.specs.State.{Transaction}
use Rattle.tsl.specs.Transactions.{OpenTransactions, at, initiated, active, with_transaction}

-- The destination id.
abbrev pub destination_of : Head → List ℕ
destination_of (Continue origin destination) = destination
destination_of (End destination) = destination
destination_of (Abort destination) = destination

-- The message as an input of the transaction table, received from this address.
abbrev pub primitive_of : List ℕ → Head → Primitive
primitive_of from (Continue origin destination) = ContinueComes from origin
primitive_of from (End destination) = CloseComes
primitive_of from (Abort destination) = CloseComes

-- The row of the transaction table for the message.
abbrev pub row_of : OpenTransactions → List ℕ → Head → Option Row
row_of t from head = transact (at t (destination_of head)) (primitive_of from head)

-- What `receive` returns for a row: only a Continue is ever unassigned.
abbrev pub told : Head → Disposition → Received
told head ForIt = For (destination_of head)
told (Continue origin destination) Unassigned = NotAssigned origin
told head disposition = Nothing

abbrev pub told_of : Head → Option Row → Received
told_of head None = Nothing
told_of head (Some row) = told head row.disposition

-- The transaction that it is for.
abbrev pub received : OpenTransactions → List ℕ → Head → Received
received t from head = told_of head (row_of t from head)

-- The table after a row that removes nothing: this id has this transaction, if any.
abbrev pub left_at : OpenTransactions → List ℕ → Option Transaction → OpenTransactions
left_at t id None = t
left_at t id (Some transaction) = with_transaction t id transaction

abbrev pub put_back : OpenTransactions → List ℕ → Option Row → OpenTransactions
put_back t id None = t
put_back t id (Some row) = left_at t id row.after

-- After a Continue the id has what its row says. What an End or an Abort closes is open until `abort`.
abbrev pub after : OpenTransactions → List ℕ → Head → OpenTransactions
after t from (Continue origin destination) = put_back t destination (row_of t from (Continue origin destination))
after t from (End destination) = t
after t from (Abort destination) = t

-- ---- the same, by what is open under the destination id

-- Whether a Continue with this originating id is for a transaction with this remote id.
abbrev pub takes : Option (List ℕ) → List ℕ → Bool
takes None origin = true
takes (Some known) origin = same known origin

abbrev pub told_continue : (origin destination : List ℕ) → Option Transaction → Received
told_continue origin destination None = NotAssigned origin
told_continue origin destination (Some t) = if takes t.remote origin then For destination else NotAssigned origin

abbrev pub told_close : List ℕ → Option Transaction → Received
told_close destination None = Nothing
told_close destination (Some t) = For destination

-- The transaction with this id, Active if it was in Initiation Sent.
abbrev pub activated_from : OpenTransactions → (id peer remote : List ℕ) → Option (List ℕ) → OpenTransactions
activated_from t id peer remote None = with_transaction t id (active peer remote)
activated_from t id peer remote (Some known) = t

abbrev pub activated : OpenTransactions → (id peer remote : List ℕ) → Option Transaction → OpenTransactions
activated t id peer remote None = t
activated t id peer remote (Some s) = activated_from t id peer remote s.remote

-- ---- the rows, one by one

-- The message is for the transaction that the answer names, and afterwards this is open.
pub record IsReceived (t : OpenTransactions) (from : List ℕ) (head : Head) (answer : Received) (new : OpenTransactions) : Type 0 where
  pub told : received t from head ≡ answer
  pub left : after t from head ≡ new

-- A Continue is for a transaction in Initiation Sent always, and makes it Active; for an Active one if its remote id is the
-- originating id; otherwise for none. An End or an Abort is for the open transaction with its destination id.
pub record AreReceivedRows : Type 0 where
  pub continue_at_sent : (t : OpenTransactions) (peer from origin id : List ℕ) → at t id ≡ Some (initiated peer)
      → IsReceived t from (Continue origin id) (For id) (with_transaction t id (active from origin))
  pub continue_of_the_peer : (t : OpenTransactions) (peer from origin id : List ℕ) → at t id ≡ Some (active peer origin)
      → IsReceived t from (Continue origin id) (For id) t
  pub continue_of_another : (t : OpenTransactions) (peer known from origin id : List ℕ) → at t id ≡ Some (active peer known) → known ≢ origin
      → IsReceived t from (Continue origin id) (NotAssigned origin) t
  pub continue_at_none : (t : OpenTransactions) (from origin id : List ℕ) → at t id ≡ None → IsReceived t from (Continue origin id) (NotAssigned origin) t
  pub end_at_open : (t : OpenTransactions) (from id : List ℕ) → at t id ≢ None → IsReceived t from (End id) (For id) t
  pub end_at_none : (t : OpenTransactions) (from id : List ℕ) → at t id ≡ None → IsReceived t from (End id) Nothing t
  pub abort_at_open : (t : OpenTransactions) (from id : List ℕ) → at t id ≢ None → IsReceived t from (Abort id) (For id) t
  pub abort_at_none : (t : OpenTransactions) (from id : List ℕ) → at t id ≡ None → IsReceived t from (Abort id) Nothing t
