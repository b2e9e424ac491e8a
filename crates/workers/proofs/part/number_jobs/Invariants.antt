use Rattle.std.proofs.Common.{◌≡◌, ◌+◌, ◌++◌, length, map}
use Rattle.std.specs.Vec.Iter.{drain_items}
use Rattle.hlrcore.specs.Events.{raw_event}
use Rattle.workers.specs.Shared.{AddsJobs}
use Rattle.workers.proofs.part.number_jobs.Given as goal

abbrev pub invariant-loop-event : goal.invariant-loop-event
invariant-loop-event l = record {
  next : l.next ≡ l.first + length l.yielded;
  left : l.yielded ++ drain_items l.event-iterator ≡ l.fn.events.items;
  added : AddsJobs l.first (map raw_event l.yielded) l.fn.jobs.items l.jobs.items;
}
