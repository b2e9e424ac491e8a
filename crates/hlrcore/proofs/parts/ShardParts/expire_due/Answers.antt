use Rattle.std.proofs.Common.{refl}
use Rattle.hlrcore.proofs.IdsLemmas.{says_nothing}
use Rattle.hlrcore.proofs.ReceivingLemmas.{both_ok, expiry_can, expiry_has_room, expiry_left, expiry_taken}
use Rattle.hlrcore.proofs.parts.ShardParts.expire_due.Goals as goal

pub settle-requires-clause-can : goal.settle-requires-clause-can
settle-requires-clause-can c = expiry_can c.args.self.now c.plan_expiry.result c.in-Some.plan c.plan_expiry.ensures c.in-Some.is

pub settle-requires-clause-room : goal.settle-requires-clause-room
settle-requires-clause-room c = expiry_has_room c.args.self.now c.plan_expiry.result c.in-Some.plan c.plan_expiry.ensures c.in-Some.is

pub returns-in-Some-clause-expired : goal.returns-in-Some-clause-expired
returns-in-Some-clause-expired c =
    both_ok c.settle.result
    (λ a settled says. expiry_taken c.args.self.now c.args.self.now c.settle.new.self
    c.plan_expiry.result c.in-Some.plan a refl c.plan_expiry.ensures c.in-Some.is c.settle.ensures.own
    (settled, says))
    c.settle.ensures.settled c.settle.ensures.says

pub returns-in-None-clause-expired : goal.returns-in-None-clause-expired
returns-in-None-clause-expired c =
    expiry_left c.args.self.now c.args.self.now c.plan_expiry.result c.silent.result refl c.plan_expiry.ensures c.in-None.is c.silent.ensures

pub returns-in-None-clause-ids : goal.returns-in-None-clause-ids
returns-in-None-clause-ids c = says_nothing c.args.self.now.dialogues c.silent.result _ _ c.silent.ensures
