use Rattle.std.proofs.Common.{◌≡◌, [], length}
use Rattle.hlr_input.specs.Reading.{octets_after}
use Rattle.hlr_input.proofs.frame_octets.group_octets.Given as goal

abbrev pub invariant-groups : goal.invariant-groups
invariant-groups l = octets_after l.ids l.octets.items l.rest ≡ octets_after l.ids [] l.fn.text

abbrev pub decreases-groups : goal.decreases-groups
decreases-groups l = length l.rest
