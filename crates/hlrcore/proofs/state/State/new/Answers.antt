use Rattle.hlrcore.proofs.SoundLemmas.{part_fresh}
use Rattle.hlrcore.proofs.state.State.new.Goals as goal

pub of_part-requires-clause-fresh : goal.of_part-requires-clause-fresh
of_part-requires-clause-fresh c = part_fresh c.args.loaded.now.records c.in_ok-records.records c.args.shard c.part.ensures.fresh c.in_ok-records.ensures.part
