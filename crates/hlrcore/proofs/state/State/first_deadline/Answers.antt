use Rattle.std.proofs.Common.{subst}
use Rattle.machine.specs.Deadlines.{IsFirst, IsTimer}
use Rattle.hlrcore.specs.Shards.{ShardState, state_of}
use Rattle.hlrcore.proofs.DeadlineLemmas.{first_here}
use Rattle.hlrcore.proofs.state.State.first_deadline.Goals as goal

pub returns : goal.returns
returns c =
    subst (λ (s : ShardState). IsFirst (IsTimer (state_of s) s.shard) c.first_deadline.result) c.self.view_is
    (first_here c.self.inside.parts c.dialogues.result.now c.first_deadline.result c.dialogues.ensures.value c.dialogues.ensures.own
    c.first_deadline.ensures)
