use Rattle.std.proofs.Common.{◌≡◌, ◌+◌, ◌-◌, ◌<◌, length, arith, sym, subst, ◌∙◌}
use Rattle.tidalloc.proofs.ListingLemmas.{AreDistinct, distinct-ascending, back_begun, back_live, back_more}
use Rattle.tidalloc.proofs.ids.Ids.set_back.Goals as goal

pub loop-place-init : goal.loop-place-init
loop-place-init c =
    back_begun c.args.self.now c.in_ok-ids.ids.items c.len-place.result c.in_ok-ids.ensures (omega (arith, c.len-place.ensures, c.in_ok-ids.ids.ok.0))

pub untake-requires : goal.untake-requires
untake-requires c =
    let n = c.loop-place.place in
    let one : n - 1 + 1 ≡ n = omega (arith, c.loop-place-test.true) in
    let within : n - 1 < length c.in_ok-ids.ids.items =
    omega (arith, c.loop-place-test.true, c.loop-place.auto.place, c.len-place.ensures, c.in_ok-ids.ids.ok.0) in
    back_live c.args.self.now c.loop-place.self c.in_ok-ids.ids.items n (n - 1) c.index.result.now one within c.index.ensures c.loop-place.invariant

pub loop-place-preserved : goal.loop-place-preserved
loop-place-preserved c =
    let n = c.loop-place.place in
    let one : n - 1 + 1 ≡ n = omega (arith, c.loop-place-test.true) in
    let within : n - 1 < length c.in_ok-ids.ids.items =
    omega (arith, c.loop-place-test.true, c.loop-place.auto.place, c.len-place.ensures, c.in_ok-ids.ids.ok.0) in
    c.untake.ensures
    ∙ back_more c.args.self.now c.loop-place.self c.in_ok-ids.ids.items n (n - 1) c.index.result.now one within c.index.ensures c.loop-place.invariant
    (subst AreDistinct (sym c.in_ok-ids.ensures) (distinct-ascending c.args.self.now.live))
