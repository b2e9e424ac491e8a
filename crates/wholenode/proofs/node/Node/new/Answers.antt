use Rattle.wholenode.proofs.OpeningLemmas.{begin_states, begins_if}
use Rattle.wholenode.proofs.node.Node.new.Goals as goal

pub of_states-requires : goal.of_states-requires
of_states-requires c = begin_states c.args.loaded c.args.start _ _ c.in_ok-directory.ensures c.in_ok-states.ensures

pub returns-clause-begins : goal.returns-clause-begins
returns-clause-begins c = begins_if c.args.loaded c.args.keep c.args.start _ _ _ c.in_ok-directory.ensures c.in_ok-states.ensures
    c.of_states.ensures.is c.of_states.ensures.keeps
