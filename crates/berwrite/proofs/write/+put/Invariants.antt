use Rattle.std.proofs.Common.{◌≡◌, ◌++◌, drop}
use Rattle.berwrite.proofs.Own.{enc_each}
use Rattle.berwrite.proofs.write.+put.Given as goal

abbrev pub invariant-loop-child : goal.invariant-loop-child
invariant-loop-child g l =
    l.out.items ++ enc_each (drop l.child-index l.child-items) ≡ l.initial.out.items ++ enc_each l.child-items
