use Rattle.std.proofs.Common.{◌≡◌, false, true, refl, rules}
use Rattle.hlrcore.specs.Events.{change as said}
use Rattle.hlrcore.proofs.ReceivingLemmas.{change_taken, has_no}
use Rattle.hlrcore.proofs.SettledLemmas.{no_room}
use Rattle.hlrcore.proofs.parts.ShardParts.change.Goals as goal

pub settle-requires-clause-can : goal.settle-requires-clause-can
settle-requires-clause-can c = c.plan_change-plan.ensures.can

pub returns-then-not-has_room-clause-no_room : goal.returns-then-not-has_room-clause-no_room
returns-then-not-has_room-clause-no_room c = λ _.
    let none : c.has_room.result ≡ false = search rules in
    no_room c.args.self.now c.args.imsi (said c.args.change.now) c.plan_change-plan.result c.requires.routed c.plan_change-plan.ensures
    (c.has_room.ensures.full.0 none)

pub returns-clause-changed : goal.returns-clause-changed
returns-clause-changed c =
    let some : c.has_room.result ≡ true = search rules in
    change_taken c.args.self.now c.args.self.now c.settle.new.self c.args.imsi
    (said c.args.change.now) c.plan_change-plan.result c.in_ok-settle.field-0 refl c.requires
    c.plan_change-plan.ensures c.settle.ensures.own (search rules) (has_no c.has_room.result some c.has_room.ensures.full.1)
    (c.in_ok-settle.ensures.settled, c.in_ok-settle.ensures.says)
