use Rattle.std.proofs.Common.{subst}
use Rattle.hlrcore.specs.Shards.{ShardState}
use Rattle.hlrcore.specs.Events.{event_of, raw_of}
use Rattle.hlrcore.specs.Leading.{Steps}
use Rattle.hlrcore.proofs.SoundLemmas.{sound_after}
use Rattle.hlrcore.proofs.state.State.step_for.Goals as goal

pub invariant_of-self : goal.invariant_of-self
invariant_of-self c =
    sound_after c.step_for.result c.self.inside.parts c.step_for.new.self
    (raw_of c.args.event.now) c.self.invariant c.step_for.ensures.stepped c.step_for.ensures.routed c.step_for.ensures.err
    c.step_for.ensures.same_shard

pub returns : goal.returns
returns c =
    subst (λ (s : ShardState). Steps s (raw_of c.args.event.now) (event_of c.args.event.now) c.step_for.result c.step_for.new.self) c.self.view_is
    c.step_for.ensures
