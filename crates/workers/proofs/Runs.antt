-- One run of the machine after the other.
use Rattle.std.proofs.Common.{List, [], ◌∷◌, ◌++◌, subst}
use Rattle.machine.specs.State.{State}
use Rattle.frames.specs.Octets.{RawEntry, RunOctets}

pub run_join : (S T U : State) (xs ys : List RawEntry) → RunOctets S xs T → RunOctets T ys U → RunOctets S (xs ++ ys) U
run_join S T U [] ys h k = subst (λ (B : State). RunOctets B ys U) h k
run_join S T U (x ∷ xs) ys (M, first, rest) k = (M, first, run_join M T U xs ys rest k)
