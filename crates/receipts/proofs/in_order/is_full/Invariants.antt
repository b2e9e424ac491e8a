use Rattle.std.proofs.Common.{◌≡◌, ℕ, ◌<◌}
use Rattle.receipts.specs.Marks.{mark_at}
use Rattle.receipts.proofs.in_order.is_full.Given as goal

abbrev pub invariant-loop-position : goal.invariant-loop-position
invariant-loop-position l = (k : ℕ) → k < l.position → mark_at l.words l.shard k ≡ 1
