use Rattle.std.proofs.Common.{◌≡◌, length}
use Rattle.hlr_input.specs.Reading.{are_groups}
use Rattle.hlr_input.proofs.frame_octets.groups_stand.Given as goal

abbrev pub invariant-groups : goal.invariant-groups
invariant-groups l = are_groups l.known l.rest ≡ are_groups l.known l.fn.text

abbrev pub decreases-groups : goal.decreases-groups
decreases-groups l = length l.rest
