use Rattle.std.proofs.Common.{ℕ, ◌<◌, count_by}
use Rattle.frames.specs.Account.{names_place}
use Rattle.receipts.proofs.account.has_stray_in.Given as goal

abbrev pub invariant-loop-position : goal.invariant-loop-position
invariant-loop-position l = (k : ℕ) → k < l.position → 0 < count_by (names_place l.shard k) l.receipts
