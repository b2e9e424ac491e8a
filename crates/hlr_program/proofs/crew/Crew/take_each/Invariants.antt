use Rattle.std.proofs.Common.{map}
use Rattle.std.specs.List.{range_with_len}
use Rattle.hlr_program.specs.declared.register.Register.TheVariants.{Shared}
use Rattle.hlr_program.specs.Gathering.{Adds, progress}
use Rattle.hlr_program.specs.Shards.{event_for}
use Rattle.hlr_program.proofs.crew.Crew.take_each.Given as goal

abbrev pub invariant-loop-number : goal.invariant-loop-number
invariant-loop-number g l =
    Adds (progress (Shared l.fn.self) l.fn.answers) (map (λ n. event_for l.said n) (range_with_len 0 l.number)) (progress (Shared l.self) l.answers)
