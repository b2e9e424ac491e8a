-- The orders of invocations and of deadlines are total, and only equal keys compare equal.
use Rattle.std.proofs.Common.{◌≡◌, ◌<◌, ℕ, ℤ, true, false, List, ap, sym, ◌∙◌}
use Rattle.std.specs.declared.cmp.Ordering.TheVariants.{Less, Greater}
use Rattle.std.specs.Ordering.{nat_cmp, int_cmp, ordering_then, ordering_reverse, is_eq, is_gt}
use Rattle.std.specs.Cmp.{IsTotalOrder, Equal-is, tied_itself, nat_cmp_total, int_cmp_total, nat_cmp_is}
use Rattle.std.specs.FinMap.{nat_cmp-IsAntisymmetric}
use Rattle.std.proofs.lemmas.Cmp.{on_total, then_total}
use Rattle.std.proofs.lemmas.Map.Lookups.{CmpEqualImpliesEq, exact_pairs, exact_signed}
use Rattle.hlr_types.specs.Orders.{octets_cmp}
use Rattle.hlr_types.proofs.OrderLemmas.{octets_total, octets_exact}
use Rattle.deadlines.specs.declared.timer.Invocation.{Invocation}
use Rattle.deadlines.specs.declared.timer.Timer.{Timer}
use Rattle.deadlines.specs.Timers.{invocation_cmp, timer_cmp}
use Rattle.deadlines.specs.Index.{is_invocation, is_timer}

pub invocation_total : IsTotalOrder invocation_cmp
invocation_total = then_total (on_total (λ (i : Invocation). i.id) octets_total) (on_total (λ (i : Invocation). i.invoke) int_cmp_total)

pub invocation_exact : CmpEqualImpliesEq invocation_cmp
invocation_exact a b e = ap (λ (p : List ℕ × ℤ). record { id = p.0; invoke = p.1 })
    (exact_pairs octets_cmp int_cmp octets_exact exact_signed (a.id, a.invoke) (b.id, b.invoke) e)

pub timer_total : IsTotalOrder timer_cmp
timer_total = then_total (on_total (λ (t : Timer). t.deadline) nat_cmp_total) (on_total (λ (t : Timer). t.invocation) invocation_total)

pub timer_exact : CmpEqualImpliesEq timer_cmp
timer_exact a b e = ap (λ (p : ℕ × Invocation). record { deadline = p.0; invocation = p.1 })
    (exact_pairs nat_cmp invocation_cmp nat_cmp-IsAntisymmetric invocation_exact (a.deadline, a.invocation) (b.deadline, b.invocation) e)

pub same_invocation : (k q : Invocation) → is_invocation k q ≡ true → k ≡ q
same_invocation k q e = invocation_exact k q ((Equal-is (invocation_cmp k q)).0 e)

pub same_timer : (t u : Timer) → is_timer t u ≡ true → t ≡ u
same_timer t u e = timer_exact t u ((Equal-is (timer_cmp t u)).0 e)

pub own_invocation : (k q : Invocation) → k ≡ q → is_invocation k q ≡ true
own_invocation k q e = ap (is_invocation k) (sym e) ∙ ap is_eq (tied_itself invocation_total k)

pub own_timer : (t u : Timer) → t ≡ u → is_timer t u ≡ true
own_timer t u e = ap (is_timer t) (sym e) ∙ ap is_eq (tied_itself timer_total t)

-- if the second is not greater than the first, the first is not less
pub not_less : (a b : Timer) → is_gt (timer_cmp a b) ≡ false → timer_cmp b a ≡ Less → ⊥
not_less a b e l =
    let r : timer_cmp a b ≡ Greater = timer_total.antisymm a b ∙ ap ordering_reverse l in
    let f : is_gt Greater ≡ false = ap is_gt (sym r) ∙ e in
    cc

-- an earlier deadline is less
pub earlier_less : (t u : Timer) → t.deadline < u.deadline → timer_cmp t u ≡ Less
earlier_less t u h = ap (λ r. ordering_then r (invocation_cmp t.invocation u.invocation)) (sym (nat_cmp_is t.deadline u.deadline Less h))
