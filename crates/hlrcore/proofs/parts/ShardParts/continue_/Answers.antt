use Rattle.std.proofs.Common.{refl}
use Rattle.hlrcore.proofs.IdsLemmas.{says_nothing}
use Rattle.hlrcore.proofs.ReceivingLemmas.{both_ok, continue_left, continue_taken, found_can, found_room}
use Rattle.hlrcore.proofs.TakenLemmas.{then_ok}
use Rattle.hlrcore.proofs.parts.ShardParts.continue_.Goals as goal

pub settle-requires-clause-can : goal.settle-requires-clause-can
settle-requires-clause-can c =
    found_can c.args.self.now c.from-from.result c.args.origin c.args.destination
    c.args.components.now c.in_ok-found.found c.in-Some.plan c.in_ok-found.ensures c.in-Some.is

pub settle-requires-clause-room : goal.settle-requires-clause-room
settle-requires-clause-room c =
    found_room c.args.self.now c.from-from.result c.args.origin c.args.destination
    c.args.components.now c.in_ok-found.found c.in-Some.plan c.in_ok-found.ensures c.in-Some.is

pub returns-in-Some-clause-received : goal.returns-in-Some-clause-received
returns-in-Some-clause-received c =
    both_ok c.settle.result
    (λ a settled says. continue_taken c.args.self.now c.args.self.now c.settle.new.self
    c.args.indication.now c.from-from.result c.args.origin c.args.destination c.args.components.now
    c.in_ok-found.found c.in-Some.plan a refl c.requires.mine c.requires.continues
    c.from-from.ensures c.in_ok-found.ensures c.in-Some.is c.settle.ensures.own (settled, says))
    c.settle.ensures.settled c.settle.ensures.says

pub returns-in-None-clause-received : goal.returns-in-None-clause-received
returns-in-None-clause-received c =
    then_ok c.aborted.result
    (λ a says. continue_left c.args.self.now c.args.self.now c.args.indication.now
    c.from-from.result c.args.origin c.args.destination c.args.components.now c.in_ok-found.found a
    refl c.requires.mine c.requires.continues c.from-from.ensures c.in_ok-found.ensures c.in-None.is says)
    c.aborted.ensures

pub returns-in-None-clause-ids : goal.returns-in-None-clause-ids
returns-in-None-clause-ids c = then_ok c.aborted.result (λ a says. says_nothing c.args.self.now.dialogues a _ _ says) c.aborted.ensures
