use Rattle.std.specs.Arc.{arc_value}
use Rattle.hlrcore.proofs.SoundLemmas.{opening_is_sound}
use Rattle.hlrcore.proofs.state.State.of_part.Goals as goal

pub invariant_of-result : goal.invariant_of-result
invariant_of-result c =
    opening_is_sound c.in_ok-of_part.field-0 c.args.start c.args.shard c.args.records (arc_value c.args.directory) c.args.hlr c.requires.shard c.requires.own c.requires.fresh
    c.in_ok-of_part.ensures.opening c.in_ok-of_part.ensures.part
