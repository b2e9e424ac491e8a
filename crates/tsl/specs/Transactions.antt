-- The open transactions of a shard, as a finite map from local ids, and how they begin, go on and close by the transaction
-- table (Q.774).
use Rattle.std.specs.Prelude.{◌≡◌, ◌≢◌, ℕ, ◌+◌, List, Option, Some, None, is_some, IsSome, refl, if◌then◌else◌}
use Rattle.std.specs.Coded.{Coded, code_by, coded×, coded_ℕ, coded_list, coded_option}
use Rattle.std.specs.FinMap as map
use Rattle.machine.specs.State.{Transaction}
use Rattle.hlr_types.specs.Orders.{octets_cmp}
use Rattle.hlr_types.specs.Ids.{IsIdOf}
use Rattle.tidalloc.specs.LiveIds.{LiveIds, Supply, supply_code, unused, next_id, slot_of, after_taking, after_freeing}
use Rattle.tsl.specs.declared.transaction.Transaction as seen

-- ---- one transaction

-- A transaction of the code, as the machine has it.
abbrev pub transaction_of : seen.Transaction → Transaction
transaction_of t = record { peer = t.peer; remote = t.remote }

-- With this peer, whose id may be known.
abbrev pub known_as : List ℕ → Option (List ℕ) → Transaction
known_as peer remote = record { peer = peer; remote = remote }

-- Initiation Sent: the peer's id is not known.
abbrev pub initiated : List ℕ → Transaction
initiated peer = record { peer = peer; remote = None }

-- Active: the peer's id is known.
abbrev pub active : List ℕ → List ℕ → Transaction
active peer remote = record { peer = peer; remote = Some remote }

-- ---- all that are open

-- The open transactions of a shard by local id. `freed_last` is the id of the one that closed last, `supply` decides under which id the next
-- one begins; `room` is how many can begin without allocating.
pub record OpenTransactions : Type 0 where
  pub shard : ℕ
  pub open_ones : map.FinMap octets_cmp Transaction
  pub freed_last : Option (List ℕ)
  pub supply : Supply
  pub room : ℕ

abbrev pub coded_transaction : Coded Transaction
coded_transaction =
    code_by (List ℕ × Option (List ℕ)) (coded× (coded_list coded_ℕ) (coded_option (coded_list coded_ℕ))) (λ t. (t.peer, t.remote)) (λ p. record { peer = p.0; remote = p.1 }) (λ _. refl)

abbrev pub open_transactions_code : Coded OpenTransactions
open_transactions_code =
    code_by
    (ℕ × (map.FinMap octets_cmp Transaction × (Option (List ℕ) × (Supply × ℕ))))
    (coded× coded_ℕ (coded× (map.code (coded_list coded_ℕ) coded_transaction)
    (coded× (coded_option (coded_list coded_ℕ)) (coded× supply_code coded_ℕ))))
    (λ t. (t.shard, (t.open_ones, (t.freed_last, (t.supply, t.room)))))
    (λ p. record { shard = p.0; open_ones = p.1.0; freed_last = p.1.1.0; supply = p.1.1.1.0; room = p.1.1.1.1 })
    (λ _. refl)

-- The open transaction with these octets as its local id, if there is one.
abbrev pub at : OpenTransactions → List ℕ → Option Transaction
at t id = map.get t.open_ones id

-- How many are open.
abbrev pub count : OpenTransactions → ℕ
count t = map.len t.open_ones

-- The id under which the next one begins, if there is room for one.
abbrev pub next_of : OpenTransactions → Option (List ℕ)
next_of t = next_id t.shard t.supply

-- No transaction is open, and none ever was.
abbrev pub none_open : ℕ → OpenTransactions
none_open shard = record {
  shard = shard;
  open_ones = map.empty;
  freed_last = None;
  supply = unused 0;
  room = 0;
}

-- No transaction is open, and the next ids are those of these.
abbrev pub none_with : LiveIds → OpenTransactions
none_with ids = record {
  shard = ids.shard;
  open_ones = map.empty;
  freed_last = ids.freed_last;
  supply = ids.supply;
  room = 0;
}

-- An id of the shard that names no open transaction, and is not that of the transaction that closed last.
pub record MayBegin (t : OpenTransactions) (id : List ℕ) : Type 0 where
  pub of_shard : IsIdOf t.shard id
  pub not_open : at t id ≡ None
  pub not_freed_last : t.freed_last ≢ Some id

-- This transaction is now open too, under the id that was next and may begin.
pub record Begins (old : OpenTransactions) (id : List ℕ) (transaction : Transaction) (new : OpenTransactions) : Type 0 where
  pub was_next : next_of old ≡ Some id
  pub may : MayBegin old id
  pub after : new ≡ record old { open_ones = map.insert old.open_ones id transaction; supply = after_taking old.supply; room = new.room }

-- The open transaction with this id is now this one.
abbrev pub with_transaction : OpenTransactions → List ℕ → Transaction → OpenTransactions
with_transaction t id transaction = record t { open_ones = map.insert t.open_ones id transaction }

-- The transaction with this id is closed. Its slot is used next.
abbrev pub closed : OpenTransactions → List ℕ → OpenTransactions
closed t id = record t {
  open_ones = map.remove t.open_ones id;
  freed_last = Some id;
  supply = after_freeing t.supply id;
  room = t.room + 1;
}

-- The ids of slots that were never used begin after this generation.
abbrev pub beginning_after : OpenTransactions → ℕ → OpenTransactions
beginning_after t generation = record t { supply = record t.supply { first = generation } }

-- There is a transaction, and it is Active.
abbrev pub IsActive : Option Transaction → Type 0
IsActive None = ⊥
IsActive (Some t) = IsSome t.remote

-- There is a transaction, and it is in Initiation Sent.
abbrev pub IsInitiated : Option Transaction → Type 0
IsInitiated None = ⊥
IsInitiated (Some t) = t.remote ≡ None

-- Each open transaction has an id of the shard.
abbrev pub HaveIdsOfShard : OpenTransactions → Type 0
HaveIdsOfShard t = (id : List ℕ) → at t id ≢ None → IsIdOf t.shard id

-- The slot of the id of an open transaction.
abbrev pub slot_if_open : OpenTransactions → List ℕ → Option ℕ
slot_if_open t id = if is_some (at t id) then Some (slot_of id) else None

-- No two open transactions share a slot.
abbrev pub HaveOwnSlots : OpenTransactions → Type 0
HaveOwnSlots t = (p q : List ℕ) → at t p ≢ None → at t q ≢ None → slot_of p ≡ slot_of q → p ≡ q
