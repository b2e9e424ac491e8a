use Rattle.std.proofs.Common.{◌≡◌, ◌<◌, ◌-◌, ℕ, List, Some, Ok, Bool, true, false, not, refl, sym, ap, ap₂, ◌∙◌, arith}
use Rattle.dialogues.specs.Dialogues.{next_of}
use Rattle.hlr_types.proofs.OrderLemmas.{pointwise-octets, same_octets}
use Rattle.images.specs.Reading.{HasOpened, reading}
use Rattle.images.proofs.so_far.Opening.open.Goals as goal

not_false : (b : Bool) → not b ≡ false → b ≡ true
not_false true e = refl
not_false false e = absurd cc

pub returns : goal.returns
returns c =
    let some = c.if-left-eq0.false in
    let left : 0 < c.args.self.left = omega (arith, some) in
    let same : c.in-Some.next ≡ c.args.id =
    same_octets c.in-Some.next c.args.id (sym (pointwise-octets c.in-Some.next c.args.id) ∙ not_false _ (sym c.if-ne.ensures)) in
    let next : next_of c.args.self.state.dialogues ≡ Some c.args.id =
    ap next_of (sym c.dialogues.ensures.value) ∙ sym c.next_id.ensures.value ∙ c.in-Some.is ∙ ap (λ (z : List ℕ). Some z) same in
    let may = sym c.in_ok-reopen.ensures.may ∙ c.if-not-branch.false in
    let after = c.in_ok-reopen.ensures.opened (ap (λ b. Ok b) c.if-not-branch.false) in
    ((left, next, may, c.reading.ensures.seen ∙ ap₂ (λ s vs. reading s (HasOpened (c.args.self.left - 1) vs)) after c.none.ensures), c.reading.ensures.fits)
