use Rattle.std.proofs.Common.{map, take}
use Rattle.std.specs.Prelude.{string_bytes}
use Rattle.images.specs.Appended.{GoesOnWith, waits_line}
use Rattle.images.proofs.write.push_invocations.Given as goal

abbrev pub invariant-loop-invoke : goal.invariant-loop-invoke
invariant-loop-invoke l = GoesOnWith (map waits_line (take l.invoke-index l.told)) (string_bytes l.fn.text) (string_bytes l.text)
