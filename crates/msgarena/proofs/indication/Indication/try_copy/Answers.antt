use Rattle.std.proofs.Common.{rules, ◌≡◌}
use Rattle.msgarena.proofs.indication.Indication.try_copy.Goals as goal

pub invariant_of-result : goal.invariant_of-result
invariant_of-result c =
    let same : c.in_ok-to_vec.field-0.items ≡ c.self.inside.octets.items = search rules in
    rw (same, c.in_ok-try_copy.ensures) c.self.invariant

pub returns : goal.returns
returns c =
    let same : c.in_ok-to_vec.field-0.items ≡ c.self.inside.octets.items = search rules in
    rw (same, c.in_ok-try_copy.ensures) c.self.view_is
