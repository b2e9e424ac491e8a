use Rattle.std.proofs.Common.{[], refl, sym, ◌∙◌, ap, arith, append-nil}
use Rattle.bertree.specs.Nodes.{listed}
use Rattle.bertree.proofs.Frames.{reading-first, reading-opened, reading-grown, reading-closed, reading-last, reading-more, reading-stuck, taken-room, taken-first, taken-opened, taken-grown, taken-closed, primitive-whole, primitive-more, no-items, opened-smaller, closed-smaller}
use Rattle.bertree.proofs.read.read_levels.Goals as goal

-- the first element

pub returns-in_default-clause-not_ber : goal.returns-in_default-clause-not_ber
returns-in_default-clause-not_ber c = λ _ t s. c.in_default.ensures.none t _ [] s (sym (append-nil _))

pub returns-in_err-alone-in-Primitive-clause-not_ber : goal.returns-in_err-alone-in-Primitive-clause-not_ber
returns-in_err-alone-in-Primitive-clause-not_ber c = λ _.
    primitive-more c.in-Primitive.tag c.args.octets.now c.in-Primitive.contents.now c.in-Primitive.after.now
    (rw c.in-Primitive.is at c.in-Some.ensures.found) c.in_err-alone-in-Primitive.ensures.not_ber.1

pub returns-in-Primitive-clause-ok : goal.returns-in-Primitive-clause-ok
returns-in-Primitive-clause-ok c =
    let whole = c.in_ok-alone-in-Primitive.ensures.ok in
    rw whole.0 (primitive-whole c.in-Primitive.tag c.in-Primitive.contents c.args.octets.now c.in-Primitive.after.now
    (rw c.in-Primitive.is at c.in-Some.ensures.found) whole.1)

pub loop-after-init : goal.loop-after-init
loop-after-init c =
    let o = c.new.ensures in let head = rw c.in-Constructed.is at c.in-Some.ensures.found in (
      reading-first _ _ _ _ _ _ _ c.in_ok-outer.ensures.items c.in_ok-nodes.ensures.items o.tag o.before o.after head,
      taken-first c.new.result _ _ _ _ _ _ c.in_ok-outer.ensures.items c.in_ok-nodes.ensures.items o.after head,
      c.in_ok-nodes.ensures.exact,
      c.in_ok-outer.ensures.exact,
    )

-- an element has ended

pub returns-in_err-alone-clause-not_ber : goal.returns-in_err-alone-clause-not_ber
returns-in_err-alone-clause-not_ber c = λ _.
    let l = c.loop-after in
    reading-more _ _ _ _ _ _ _ l.invariant.0 (no-items _ (omega (arith, c.in_default-pop.ensures.cases, l.outer.ok.0)))
    c.in-Some-end.ensures.found c.in_err-alone.ensures.not_ber.1

pub returns-in_default-pop-clause-ok : goal.returns-in_default-pop-clause-ok
returns-in_default-pop-clause-ok c =
    let l = c.loop-after in
    let whole = c.in_ok-alone.ensures.ok in
    rw whole.0 (reading-last _ _ _ _ _ _ _ _ l.invariant.0 (no-items _ (omega (arith, c.in_default-pop.ensures.cases, l.outer.ok.0)))
    c.in-Some-end.ensures.found whole.1 (c.new-in_default-pop.ensures ∙ ap listed c.into_bump_slice.ensures))

pub loop-after-smaller-in-Some-end : goal.loop-after-smaller-in-Some-end
loop-after-smaller-in-Some-end c =
    closed-smaller c.loop-after.inner c.in-Some-pop.parent _ _ _ _ c.in-Some-pop.ensures.items c.in-Some-end.ensures.found

pub loop-after-preserved-in-Some-end : goal.loop-after-preserved-in-Some-end
loop-after-preserved-in-Some-end c =
    let l = c.loop-after in (
      reading-closed _ l.inner c.in-Some-pop.parent _ _ _ _ _ _ _ _ l.invariant.0 c.in-Some-pop.ensures.items
          c.in-Some-end.ensures.found (omega (arith, c.len.ensures, l.nodes.ok.0)) refl,
      taken-closed l.inner c.in-Some-pop.parent _ _ l.nodes.items _ _ _ _ _ _ l.invariant.1 c.in-Some-pop.ensures.items
          c.in-Some-end.ensures.found refl,
      l.invariant.2,
      c.in-Some-pop.ensures.capacity ∙ l.invariant.3,
    )

-- an element has begun

pub returns-in_default-read_head-clause-not_ber : goal.returns-in_default-read_head-clause-not_ber
returns-in_default-read_head-clause-not_ber c = λ _.
    reading-stuck _ _ _ _ _ _ c.loop-after.invariant.0 c.in_default-end.ensures.none c.in_default-read_head.ensures.none

pub push_reserved-requires : goal.push_reserved-requires
push_reserved-requires c =
    let l = c.loop-after in let room = taken-room l.inner l.outer.items l.nodes.items _ _ l.invariant.1 in
    omega (arith, room.0, l.invariant.2, l.nodes.ok.0)

pub loop-after-preserved-in-Primitive-head : goal.loop-after-preserved-in-Primitive-head
loop-after-preserved-in-Primitive-head c =
    let l = c.loop-after in let h = c.in-Primitive-head in let pushed = c.push_reserved.ensures in
    let head = rw h.is at c.in-Some-read_head.ensures.found in (
      reading-grown _ l.inner _ _ _ _ h.tag h.contents h.after _ _ l.invariant.0 pushed.items head (omega (arith, l.outer.ok.0)),
      taken-grown l.inner l.outer.items _ _ _ _ h.tag _ _ _ l.invariant.1 pushed.items head.1,
      pushed.capacity ∙ l.invariant.2,
      l.invariant.3,
    )

pub push_reserved-requires-in-Constructed-head : goal.push_reserved-requires-in-Constructed-head
push_reserved-requires-in-Constructed-head c =
    let l = c.loop-after in let room = taken-room l.inner l.outer.items l.nodes.items _ _ l.invariant.1 in
    omega (arith, room.1, l.invariant.3, l.outer.ok.0)

pub push_reserved-requires-in-Constructed-head-2 : goal.push_reserved-requires-in-Constructed-head-2
push_reserved-requires-in-Constructed-head-2 c =
    let l = c.loop-after in let room = taken-room l.inner l.outer.items l.nodes.items _ _ l.invariant.1 in
    omega (arith, room.0, l.invariant.2, l.nodes.ok.0)

pub loop-after-smaller : goal.loop-after-smaller
loop-after-smaller c =
    let l = c.loop-after in let h = c.in-Constructed-head in
    opened-smaller l.inner c.new-inner.result _ _ _ _ h.tag h.after c.push_reserved-in-Constructed-head.ensures.items c.new-inner.ensures.after
    (rw h.is at c.in-Some-read_head.ensures.found)

pub loop-after-preserved : goal.loop-after-preserved
loop-after-preserved c =
    let l = c.loop-after in let h = c.in-Constructed-head in let o = c.new-inner.ensures in
    let head = rw h.is at c.in-Some-read_head.ensures.found in
    let around = c.push_reserved-in-Constructed-head.ensures in let marked = c.push_reserved-in-Constructed-head-2.ensures in (
      reading-opened _ l.inner _ _ _ _ _ _ _ _ h.tag h.after _ _ l.invariant.0 around.items marked.items
          o.tag (omega (arith, o.before, c.len-in-Constructed-head.ensures, c.push_reserved-in-Constructed-head-2.new.self.ok.0)) o.after head (omega (arith, l.outer.ok.0)),
      taken-opened l.inner c.new-inner.result _ _ _ _ _ _ _ h.tag h.after _ l.invariant.1 around.items marked.items o.after head,
      marked.capacity ∙ l.invariant.2,
      around.capacity ∙ l.invariant.3,
    )
