-- The transaction table (Q.774, transaction sublayer). Source addresses are not compared (profile).
use Rattle.std.specs.Prelude.{ℕ, List, cond, Option, Some, None}
use Rattle.machine.specs.Keys.{same}
use Rattle.machine.specs.State.{Transaction}

-- What is received for a local id, or what the register itself does with it.
pub data Primitive : Type 0 where
  OwnBegin : (to : List ℕ) → Primitive
  Answered : (from origin : List ℕ) → Primitive  -- a Begin came, and is answered by a Continue
  ContinueComes : (from origin : List ℕ) → Primitive
  CloseComes : Primitive  -- an End or an Abort
  OwnContinue : Primitive
  OwnEnd : Primitive
  OwnClose : Primitive  -- the end without a frame

-- What becomes of it: it is sent; it is for the dialogue; it is for none, and answered with an Abort with the cause
-- unrecognizedTransactionID; nothing.
pub data Disposition : Type 0 where
  IsSent : Disposition
  ForIt : Disposition
  Unassigned : Disposition
  Nothing : Disposition

-- the transaction after, and what becomes of the primitive
pub record Row : Type 0 where
  pub after : Option Transaction
  pub disposition : Disposition

-- a row of the table
abbrev pub row : Option Transaction → Disposition → Option Row
row after disposition = Some (record { after = after; disposition = disposition })

-- A Continue for an open dialogue. In Initiation Sent it sets the peer's address and id; in Active it must have that id.
abbrev pub continue_row : Transaction → (remote : Option (List ℕ)) → (from origin : List ℕ) → Option Row
continue_row t None from origin = row (Some (record { peer = from; remote = Some origin })) ForIt
continue_row t (Some known) from origin = cond (same known origin) (row (Some t) ForIt) (row (Some t) Unassigned)

-- a row for Active alone
abbrev pub if_active : Option (List ℕ) → Option Row → Option Row
if_active None then = None
if_active (Some remote) then = then

-- a row for Initiation Sent alone
abbrev pub if_initiated : Option (List ℕ) → Option Row → Option Row
if_initiated None then = then
if_initiated (Some remote) then = None

-- The table. The transaction is `None` if no dialogue has the id; a row that is `None` never happens.
abbrev pub transact : Option Transaction → Primitive → Option Row
transact None (OwnBegin to) = row (Some (record { peer = to; remote = None })) IsSent
transact None (Answered from origin) = row (Some (record { peer = from; remote = Some origin })) IsSent
transact None (ContinueComes from origin) = row None Unassigned
transact None CloseComes = row None Nothing
transact None _ = None
transact (Some t) (ContinueComes from origin) = continue_row t t.remote from origin
transact (Some t) CloseComes = row None ForIt
transact (Some t) OwnContinue = if_active t.remote (row (Some t) IsSent)
transact (Some t) OwnEnd = if_active t.remote (row None IsSent)
transact (Some t) OwnClose = if_initiated t.remote (row None Nothing)
transact (Some t) _ = None
