use Rattle.std.proofs.Common.{rules, ◌≡◌, [], List, ℕ, sym, subst}
use Rattle.machine.specs.Received.{Discard}
use Rattle.frames.specs.Frames.{IsVerdict}
use Rattle.msgarena.proofs.Octets.{none_judged}
use Rattle.msgarena.proofs.indication.Indication.take_octets.Goals as goal

pub invariant_of-self : goal.invariant_of-self
invariant_of-self c =
    let none : c.replace.new.dest.items ≡ [] = search rules in
    subst (λ (octets : List ℕ). IsVerdict octets Discard) (sym none) none_judged
