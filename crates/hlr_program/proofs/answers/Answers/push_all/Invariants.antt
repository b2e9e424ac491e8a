use Rattle.std.proofs.Common.{map, take}
use Rattle.hlrcore.specs.Frames.{raw_out}
use Rattle.hlr_program.specs.Answered.{so_far}
use Rattle.hlr_program.specs.Printed.{Prints}
use Rattle.hlr_program.proofs.answers.Answers.push_all.Given as goal

abbrev pub invariant-loop-frame : goal.invariant-loop-frame
invariant-loop-frame l = Prints (so_far l.fn.self) (map raw_out (take l.frame-index l.sent)) (so_far l.self)
