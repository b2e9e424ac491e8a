use Rattle.std.proofs.Common.{◌≡◌, ◌<◌, length, get_or, rules}
use Rattle.hlr_program.specs.Answered.{so_far}
use Rattle.hlr_program.proofs.PrintLemmas.{prints_more}
use Rattle.hlr_program.proofs.answers.Answers.push_all.Goals as goal

pub loop-frame-preserved : goal.loop-frame-preserved
loop-frame-preserved c =
    let lt : c.loop-frame.frame-index < length c.args.sent.now = search rules in
    let is : c.frame-item.result ≡ get_or c.args.sent.now c.loop-frame.frame-index c.frame-item.result = search rules in
    prints_more (so_far c.args.self.now) (so_far c.loop-frame.self) (so_far c.push.new.self) c.args.sent.now c.loop-frame.frame-index
    c.frame-item.result lt is c.loop-frame.invariant c.in_ok-push.ensures
