use Rattle.std.proofs.Common.{ℕ, ◌+◌, ◌<◌, map, get_or}
use Rattle.receipts.proofs.numbers.numbers_rise.Given as goal

abbrev pub invariant-loop-next : goal.invariant-loop-next
invariant-loop-next l = (k : ℕ) → k + 1 < l.next → get_or (map (λ j. j.number) l.jobs) k 0 < get_or (map (λ j. j.number) l.jobs) (k + 1) 0
