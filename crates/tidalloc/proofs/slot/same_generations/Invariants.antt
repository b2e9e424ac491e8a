use Rattle.std.proofs.Common.{◌≡◌, ◌<◌, ℕ, get_or}
use Rattle.tidalloc.proofs.SupplyLemmas.{no_slot}
use Rattle.tidalloc.proofs.slot.same_generations.Given as goal

abbrev pub invariant-loop-number : goal.invariant-loop-number
invariant-loop-number l = (k : ℕ) → k < l.number → (get_or l.left k no_slot).generation ≡ (get_or l.right k no_slot).generation
