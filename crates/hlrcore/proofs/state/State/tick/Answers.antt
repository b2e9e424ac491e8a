use Rattle.std.proofs.Common.{subst}
use Rattle.frames.specs.Octets.{RawClock}
use Rattle.hlrcore.specs.Shards.{ShardState}
use Rattle.hlrcore.specs.Leading.{Leads}
use Rattle.hlrcore.specs.Ids.{MovesIds}
use Rattle.hlrcore.proofs.IdsLemmas.{ticks_move_nothing}
use Rattle.hlrcore.proofs.SoundLemmas.{clock_is_routed, step_keeps, tick_keeps_shard}
use Rattle.hlrcore.proofs.TakenLemmas.{ticked_step}
use Rattle.hlrcore.proofs.state.State.tick.Goals as goal

pub invariant_of-self : goal.invariant_of-self
invariant_of-self c =
    step_keeps c.self.inside.parts c.tick.new.self (RawClock c.self.inside.parts.shard c.args.now) c.silent.result c.self.invariant
    (clock_is_routed c.self.inside.parts c.args.now)
    (ticked_step c.self.inside.parts c.tick.new.self c.args.now c.silent.result c.tick.ensures c.silent.ensures)
    (tick_keeps_shard c.self.inside.parts c.tick.new.self c.args.now c.tick.ensures)

pub returns-clause-stepped : goal.returns-clause-stepped
returns-clause-stepped c =
    subst (λ (s : ShardState). Leads s (RawClock s.shard c.args.now) c.silent.result c.tick.new.self) c.self.view_is
    (ticked_step c.self.inside.parts c.tick.new.self c.args.now c.silent.result c.tick.ensures c.silent.ensures)

pub returns-clause-ids : goal.returns-clause-ids
returns-clause-ids c =
    subst (λ (s : ShardState). MovesIds s.dialogues c.silent.result.id c.tick.new.self.dialogues) c.self.view_is
    (ticks_move_nothing c.self.inside.parts c.tick.new.self c.args.now c.silent.result c.tick.ensures c.silent.ensures)
