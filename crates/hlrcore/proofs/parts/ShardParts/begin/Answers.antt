use Rattle.std.proofs.Common.{◌≡◌, map, false, true, rules, refl}
use Rattle.q773_comp.specs.Seen.{component}
use Rattle.msgarena.specs.Seen.{parameter}
use Rattle.hlrcore.proofs.IdsLemmas.{says_nothing}
use Rattle.hlrcore.proofs.ReceivingLemmas.{begin_refused, begin_taken, both_ok, has_no}
use Rattle.hlrcore.proofs.TakenLemmas.{then_ok}
use Rattle.hlrcore.proofs.parts.ShardParts.begin.Goals as goal

pub settle-requires-clause-can : goal.settle-requires-clause-can
settle-requires-clause-can c = (c.in_ok-plan.ensures c.requires.begin.0 c.requires.begin.1).can

pub returns-then-not-has_room-clause-received : goal.returns-then-not-has_room-clause-received
returns-then-not-has_room-clause-received c =
    let none : c.has_room.result ≡ false = search rules in
    then_ok c.aborted.result
    (λ a says. begin_refused c.args.self.now c.args.self.now c.args.indication.now c.from-from.result c.args.origin
    (map (component parameter) c.args.components.now) c.in_ok-plan.plan a
    refl c.requires.mine c.requires.begin c.from-from.ensures c.in_ok-plan.ensures (c.has_room.ensures.full.0 none) says)
    c.aborted.ensures

pub returns-clause-received : goal.returns-clause-received
returns-clause-received c =
    let some : c.has_room.result ≡ true = search rules in
    both_ok c.settle.result
    (λ a settled says. begin_taken c.args.self.now c.args.self.now c.settle.new.self c.args.indication.now c.args.origin
    (map (component parameter) c.args.components.now) c.in_ok-plan.plan a
    refl c.requires.mine c.requires.begin c.in_ok-plan.ensures c.settle.ensures.own (search rules)
    (has_no c.has_room.result some c.has_room.ensures.full.1) (settled, says))
    c.settle.ensures.settled c.settle.ensures.says

pub returns-then-not-has_room-clause-ids : goal.returns-then-not-has_room-clause-ids
returns-then-not-has_room-clause-ids c = then_ok c.aborted.result (λ a says. says_nothing c.args.self.now.dialogues a _ _ says) c.aborted.ensures
