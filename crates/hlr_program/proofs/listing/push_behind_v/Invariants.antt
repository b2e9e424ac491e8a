use Rattle.std.proofs.Common.{◌≡◌, ◌++◌, length}
use Rattle.hlr_program.specs.Closing.{behind_v}
use Rattle.hlr_program.proofs.listing.push_behind_v.Given as goal

abbrev pub invariant-lines : goal.invariant-lines
invariant-lines l = l.text.items ++ behind_v l.left.rest.now ≡ l.fn.text.items ++ behind_v l.file

abbrev pub decreases-lines : goal.decreases-lines
decreases-lines l = length l.left.rest.now
