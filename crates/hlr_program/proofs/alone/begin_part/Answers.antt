use Rattle.std.proofs.Common.{◌≡◌, [], sym, subst}
use Rattle.wholenode.specs.Nodes.{NodeState}
use Rattle.hlr_program.specs.Journals.{RunsAlone}
use Rattle.hlr_program.proofs.PartLemmas.{nothing_runs, room_runs}
use Rattle.hlr_program.proofs.alone.begin_part.Goals as goal
use Rattle.hlr_program.proofs.alone.begin_part.Goals.{then-ahead-count, else-ahead-count}

pub returns-clause-ran : goal.returns-clause-ran
returns-clause-ran c = elim c.if-ahead-count.branch [
  | then-ahead-count w ↦
      let same : c.if-ahead-count.node ≡ w.make_room.new.node = cc in
      subst (λ (n : NodeState). RunsAlone c.args.node.now [] [] n) (sym same) (room_runs c.args.node.now w.make_room.new.node _ w.make_room.ensures.makes)
  | else-ahead-count w ↦
      let same : c.if-ahead-count.node ≡ c.args.node.now = cc in
      nothing_runs c.args.node.now c.if-ahead-count.node same
]
