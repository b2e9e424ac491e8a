use Rattle.std.proofs.Common.{◌≡◌, ◌++◌, map, take}
use Rattle.std.specs.FinMap as finite
use Rattle.audit.specs.Gathered.{opened}
use Rattle.audit.proofs.gathered.push_open.Given as goal

abbrev pub invariant-loop-id : goal.invariant-loop-id
invariant-loop-id l = map opened l.all.items ≡ map opened l.fn.all.items ++ take l.id-index (finite.entries l.dialogues.open_ones)
