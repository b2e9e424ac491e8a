use Rattle.std.proofs.Common.{◌≤◌, rules, tests}
use Rattle.std.specs.Prelude.{◌↔◌}
use Rattle.machine.specs.Deadlines.{HasDue}
use Rattle.hlrcore.specs.Shards.{state_of}
use Rattle.hlrcore.proofs.DeadlineLemmas.{come_due, none_come}
use Rattle.hlrcore.proofs.state.State.is_due.Goals as goal

pub returns-in-Some : goal.returns-in-Some
returns-in-Some c =
    let s = c.args.self.now in
    let both : (c.in-Some.deadline ≤ c.clock.result) ↔ HasDue (state_of s) s.shard =
    come_due s c.in-Some.deadline c.clock.result c.clock.ensures.value c.in-Some.ensures in (
      λ yes. let come : c.in-Some.deadline ≤ c.clock.result = search (rules, tests) in both.0 come,
      λ due. let come : c.in-Some.deadline ≤ c.clock.result = both.1 due in search (rules, tests),
    )

pub returns-in-None : goal.returns-in-None
returns-in-None c = (λ yes. absurd cc, λ due. absurd (none_come c.args.self.now c.in-None.ensures due))
