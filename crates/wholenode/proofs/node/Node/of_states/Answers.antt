use Rattle.std.specs.Arc.{arc_value}
use Rattle.wholenode.proofs.BaseLemmas.{with_empty_journals}
use Rattle.wholenode.proofs.node.Node.of_states.Goals as goal

pub of_parts-requires : goal.of_parts-requires
of_parts-requires c =
    with_empty_journals (arc_value c.args.directory) c.args.keep c.args.states.items _ c.requires c.in_ok-shards.ensures.shards
    c.in_ok-shards.ensures.keeps
