-- The least timer is that of the invocation that times out.
use Rattle.std.proofs.Common.{◌≡◌, ◌≤◌, ◌<◌, ℕ, ℤ, List, [], ◌∷◌, Bool, true, false, cond, Option, Some, None, refl, sym, ap, ◌∙◌, subst, arith, get_or, int_eq, Ordering, Less, Equal, Greater}
use Rattle.std.specs.Ordering.{is_gt, ordering_reverse}
use Rattle.std.specs.Option.{IsSome, option_map}
use Rattle.std.specs.List.{position}
use Rattle.machine.specs.Effect.{AreRising}
use Rattle.machine.specs.Expiries.{without}
use Rattle.machine.specs.Invocations.{Failed, NoReply, Reply, TimesOut, invocation}
use Rattle.machine.specs.Rows.{standing_of}
use Rattle.machine.specs.State.{Invocation, OperationSent, WaitForReject, Was}
use Rattle.machine.specs.Turns.{invocation_of, triple_cmp}
use Rattle.machine_laws.proofs.Rising.{IsMap, int_is, rising_map}
use Rattle.deadlines.specs.declared.timer.Timer.{Timer}
use Rattle.deadlines.specs.Timers.{IsIn, IsLeastOf, NoneDueOf, TimerSet, timer_cmp, timer_of}
use Rattle.deadlines.proofs.KeyLemmas.{timer_total}
use Rattle.csl.specs.Endings.{has_id}
use Rattle.csl.specs.Expiring.{Expires, IsNext, NoneDue}
use Rattle.csl.specs.Tables.{HaveTimers, InvocationLists, has_timer, invocations_at, put_list}
use Rattle.csl.proofs.Places.{NoneHas, none_of}
use Rattle.csl.proofs.Putting.{at-put_list, own_id}
use Rattle.csl.proofs.Standing.{stands_at}
use Rattle.csl.proofs.Timing.{none_timed, timer_of_it, timer_stands}

pub none_due : (lists : InvocationLists) (d : TimerSet) (now : ℕ) → HaveTimers lists d → NoneDueOf (IsIn d) now → NoneDue lists now
none_due lists d now have none i j v is =
    let late : now < v.deadline = none (timer_of v.deadline i j) (have (timer_of v.deadline i j) ∙ timer_stands j (invocations_at lists i) v is.stands) in
    omega (arith, late, is.due)

pub place_there : (j : ℤ) (vs : List Invocation) (t : ℕ) → has_timer vs j t ≡ true → IsSome (position (has_id j) vs)
place_there j vs t e = by (position (has_id j) vs) refl
  where
    by : (o : Option ℕ) → position (has_id j) vs ≡ o → IsSome o
    by None q = let none : false ≡ true = sym (none_timed j t vs (none_of j vs q)) ∙ e in cc
    by (Some place) q = refl

not_greater : (a b : Timer) → (timer_cmp b a ≡ Less → ⊥) → is_gt (timer_cmp a b) ≡ false
not_greater a b h = by (timer_cmp a b) refl
  where
    by : (o : Ordering) → timer_cmp a b ≡ o → is_gt o ≡ false
    by Less e = refl
    by Equal e = refl
    by Greater e = absurd (h (timer_total.antisymm b a ∙ ap ordering_reverse e))

pub is_next : (lists : InvocationLists) (d : TimerSet) (now : ℕ) → HaveTimers lists d → (t : ℕ) (i : List ℕ) (j : ℤ)
    → IsLeastOf (IsIn d) now (timer_of t i j) → (vs : List Invocation) → vs ≡ invocations_at lists i → AreRising vs
    → (place : ℕ) → position (has_id j) vs ≡ Some place → (v : Invocation) → v ≡ get_or vs place v
    → (was : Was) → v.was ≡ was → IsNext lists now i j was
is_next lists d now have t i j least vs is rising place found v read was state =
    let stands : invocation_of j vs ≡ Some v = stands_at j vs place v found read in
    let same : v.deadline ≡ t = timer_of_it j t vs v (rising_map vs rising) stands
    (ap (λ us. has_timer us j t) is ∙ sym (have (timer_of t i j)) ∙ least.one) in
    record {
      own = v;
      due = record { stands = ap (invocation_of j) (sym is) ∙ stands; due = subst (λ n. n ≤ now) (sym same) least.come };
      state = state;
      least = λ i' j' v' other.
          subst (λ n. is_gt (triple_cmp n i j v'.deadline i' j') ≡ false) (sym same)
          (not_greater (timer_of t i j) (timer_of v'.deadline i' j') (least.least (timer_of v'.deadline i' j') (have (timer_of v'.deadline i' j')
          ∙ timer_stands j' (invocations_at lists i') v' other.stands)));
    }

-- the invocation that times out is Idle

standing_is : (j : ℤ) (vs : List Invocation) → standing_of j vs ≡ option_map (λ (v : Invocation). (v.was, v.deadline)) (invocation_of j vs)
standing_is j [] = refl
standing_is j (v ∷ vs) = by (int_eq v.id j) (standing_is j vs)
  where
    by : (b : Bool) → standing_of j vs ≡ option_map (λ (u : Invocation). (u.was, u.deadline)) (invocation_of j vs)
        → cond b (Some (v.was, v.deadline)) (standing_of j vs) ≡ option_map (λ (u : Invocation). (u.was, u.deadline)) (cond b (Some v) (invocation_of j vs))
    by true h = refl
    by false h = h

standing_none : (j : ℤ) (vs : List Invocation) → NoneHas j vs → standing_of j vs ≡ None
standing_none j [] h = refl
standing_none j (v ∷ vs) h = ap (λ b. cond b (Some (v.was, v.deadline)) (standing_of j vs)) h.0 ∙ standing_none j vs h.1

standing_gone : (j : ℤ) (vs : List Invocation) → IsMap vs → standing_of j (without j vs) ≡ None
standing_gone j [] m = refl
standing_gone j (v ∷ vs) m = by (int_eq v.id j) refl (standing_gone j vs m.1)
  where
    by : (b : Bool) → int_eq v.id j ≡ b → standing_of j (without j vs) ≡ None → standing_of j (cond b vs (v ∷ without j vs)) ≡ None
    by true q ih = standing_none j vs (subst (λ k. NoneHas k vs) (int_is v.id j q) m.0)
    by false q ih = ap (λ b. cond b (Some (v.was, v.deadline)) (standing_of j (without j vs))) q ∙ ih

abbrev reply_to : Was → Reply
reply_to OperationSent = Failed
reply_to WaitForReject = NoReply

times_out : (was : Was) (t now : ℕ) → invocation (Some (was, t)) TimesOut now ≡ Some (None, reply_to was)
times_out OperationSent t now = refl
times_out WaitForReject t now = refl

pub expires : (old new : InvocationLists) (now : ℕ) (i : List ℕ) (j : ℤ) (was : Was) → IsNext old now i j was → AreRising (invocations_at old i)
    → new ≡ put_list old i (without j (invocations_at old i))
    → Expires old new now i j was
expires old new now i j was next rising after =
    let stood : standing_of j (invocations_at old i) ≡ Some (next.own.was, next.own.deadline) =
    standing_is j (invocations_at old i) ∙ ap (λ o. option_map (λ (v : Invocation). (v.was, v.deadline)) o) next.due.stands in
    let gone : standing_of j (invocations_at new i) ≡ None =
    ap (λ (l : InvocationLists). standing_of j (invocations_at l i)) after
    ∙ ap (standing_of j) (at-put_list old i (without j (invocations_at old i)) i
    ∙ ap (λ b. cond b (without j (invocations_at old i)) (invocations_at old i)) (own_id i))
    ∙ standing_gone j (invocations_at old i) (rising_map (invocations_at old i) rising) in
    record {
      next = next;
      after = after;
      reply = reply_to next.own.was;
      row = ap (λ s. invocation s TimesOut now) stood ∙ times_out next.own.was next.own.deadline now ∙ ap (λ s. Some (s, reply_to next.own.was)) (sym gone);
    }
