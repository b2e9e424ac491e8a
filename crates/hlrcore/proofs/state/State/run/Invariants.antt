use Rattle.std.proofs.Common.{take}
use Rattle.hlrcore.specs.Shards.{IsSameShard}
use Rattle.hlrcore.specs.Running.{RunsTo}
use Rattle.hlrcore.proofs.state.State.run.Given as goal

abbrev pub invariant-loop-event : goal.invariant-loop-event
invariant-loop-event l = record {
  so_far : RunsTo l.fn.self (take l.event-index l.events) l.done.items l.self;
  same : IsSameShard l.fn.self l.self;
}
