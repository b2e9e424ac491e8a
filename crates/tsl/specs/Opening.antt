-- How a transaction opens.
use Rattle.std.specs.Prelude.{◌≡◌, ℕ, ◌+◌, ◌<◌, ◌≤◌, ◌↔◌, List, Result, Err, IsOk, IfOk, OnOk, OnErr}
use Rattle.machine.specs.State.{Transaction}
use Rattle.machine.specs.Transactions.{IsSent, Primitive, row, transact}
use Rattle.tsl.specs.declared.transactions.TslFault.{TslFault}
use Rattle.tsl.specs.declared.transactions.TslFault.TheVariants.{NoRoom}
use Rattle.tsl.specs.Transactions.{Begins, OpenTransactions, at, count}

-- It opens so, by the row of the table for what is sent; or none does, exactly where 4,096 are open, or for want of memory, of which none is
-- needed where there is room. Then nothing changes.
pub record Opens (old : OpenTransactions) (sent : Primitive) (opened : Transaction) (result : Result (List ℕ) TslFault) (new : OpenTransactions) : Type 0 where
  pub begun : IfOk result (λ id. Begins old id opened new)
  pub table : IfOk result (λ id. transact (at old id) sent ≡ row (at new id) IsSent)
  pub no_room : (result ≡ Err NoRoom) ↔ (count old ≡ 4096)
  pub had_room : 0 < old.room → IsOk result
  pub room : OnOk result (old.room ≤ new.room + 1)
  pub err : OnErr result (new ≡ old)
