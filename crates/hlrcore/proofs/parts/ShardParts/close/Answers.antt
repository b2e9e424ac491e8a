use Rattle.std.proofs.Common.{refl}
use Rattle.hlrcore.proofs.IdsLemmas.{says_nothing}
use Rattle.hlrcore.proofs.ReceivingLemmas.{both_ok, close_left, close_taken, closed_can, closed_room}
use Rattle.hlrcore.proofs.parts.ShardParts.close.Goals as goal

pub settle-requires-clause-can : goal.settle-requires-clause-can
settle-requires-clause-can c = closed_can c.args.self.now c.args.destination c.plan_close.result c.in-Some.plan c.plan_close.ensures c.in-Some.is

pub settle-requires-clause-room : goal.settle-requires-clause-room
settle-requires-clause-room c = closed_room c.args.self.now c.args.destination c.plan_close.result c.in-Some.plan c.plan_close.ensures c.in-Some.is

pub returns-in-Some-clause-received : goal.returns-in-Some-clause-received
returns-in-Some-clause-received c =
    both_ok c.settle.result
    (λ a settled says. close_taken c.args.self.now c.args.self.now c.settle.new.self
    c.args.indication.now c.args.destination c.plan_close.result c.in-Some.plan a
    refl c.requires.mine c.requires.closes c.plan_close.ensures c.in-Some.is c.settle.ensures.own (settled, says))
    c.settle.ensures.settled c.settle.ensures.says

pub returns-in-None-clause-received : goal.returns-in-None-clause-received
returns-in-None-clause-received c =
    close_left c.args.self.now c.args.self.now c.args.indication.now c.args.destination c.plan_close.result c.silent.result
    refl c.requires.mine c.requires.closes c.plan_close.ensures c.in-None.is c.silent.ensures

pub returns-in-None-clause-ids : goal.returns-in-None-clause-ids
returns-in-None-clause-ids c = says_nothing c.args.self.now.dialogues c.silent.result _ _ c.silent.ensures
