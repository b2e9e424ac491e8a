use Rattle.std.proofs.Common.{drop, map}
use Rattle.hlrcore.specs.Events.{raw_of}
use Rattle.hlr_program.specs.Answered.{so_far}
use Rattle.hlr_program.proofs.PartLemmas.{Sending}
use Rattle.hlr_program.proofs.alone.handle_lot.Given as goal

abbrev pub invariant-loop-event : goal.invariant-loop-event
invariant-loop-event l = Sending l.fn.node (map raw_of l.fn.read) (so_far l.fn.answers) (drop l.event-index l.read) l.node (so_far l.answers)
