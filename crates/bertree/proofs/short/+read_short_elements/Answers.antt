use Rattle.std.proofs.Common.{refl, ◌∙◌, arith, rules}
use Rattle.std.proofs.lemmas.Bool.Decides.{nat_tests}
use Rattle.bertree.proofs.Shorts.{read-none, read-primitive, read-constructed, read-all, room-for-one}
use Rattle.bertree.proofs.short.+read_short_elements.Goals as goal

pub loop-rest-init : goal.loop-rest-init
loop-rest-init t c = (read-none _ _ _, record { enough = omega arith; there = c.requires.room; same = refl })

pub push_reserved-requires : goal.push_reserved-requires
push_reserved-requires t c =
    (room-for-one _ _ _ _ _ _ _ _ c.loop-rest.invariant.1 c.in_ok-element.ensures.1).0

pub read_short_elements-requires : goal.read_short_elements-requires
read_short_elements-requires t c =
    let room = (room-for-one _ _ _ _ _ _ _ _ c.loop-rest.invariant.1 c.in_ok-element.ensures.1).1 in
    (search rules, omega (arith, room, c.push_reserved.ensures.len, c.push_reserved.ensures.capacity))

pub loop-rest-preserved-then-element : goal.loop-rest-preserved-then-element
loop-rest-preserved-then-element t c =
    let e = c.in_ok-element.element in let found = c.in_ok-read_short_elements.ensures in let pushed = c.push_reserved.ensures in
    let room = c.loop-rest.invariant.1 in
    let more = (room-for-one _ _ _ _ _ _ _ _ room c.in_ok-element.ensures.1).2 in (
      read-constructed _ _ _ _ _ _ _ e.tag _ _ _ _ _ _ c.loop-rest.invariant.0 pushed.items found.added
          (omega (arith, c.len-place.ensures, c.loop-rest.nodes.ok.0)) (omega (arith, c.len.ensures, c.read_short_elements.new.nodes.ok.0)) refl
          c.in_ok-element.ensures c.if-element.true (omega arith),
      record {
        enough = omega (arith, more, found.few, pushed.len);
        there = omega (arith, room.there, found.room, pushed.capacity);
        same = found.room ∙ pushed.capacity ∙ room.same;
      },
    )

pub push_reserved-requires-else-element : goal.push_reserved-requires-else-element
push_reserved-requires-else-element t c =
    (room-for-one _ _ _ _ _ _ _ _ c.loop-rest.invariant.1 c.in_ok-element.ensures.1).0

pub loop-rest-preserved : goal.loop-rest-preserved
loop-rest-preserved t c =
    let e = c.in_ok-element.element in let pushed = c.push_reserved-else-element.ensures in let room = c.loop-rest.invariant.1 in
    let more = (room-for-one _ _ _ _ _ _ _ _ room c.in_ok-element.ensures.1).2 in (
      read-primitive _ _ _ _ _ e.tag e.contents _ _ c.loop-rest.invariant.0 pushed.items
          c.in_ok-element.ensures c.if-element.false (omega arith),
      record {
        enough = omega (arith, more, pushed.len);
        there = omega (arith, room.there, pushed.capacity);
        same = pushed.capacity ∙ room.same;
      },
    )

pub returns-clause-added : goal.returns-clause-added
returns-clause-added t c = read-all _ _ _ _ _ c.loop-rest.invariant.0 (grind (arith, nat_tests))
