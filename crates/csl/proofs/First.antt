-- The first timer is that of an invocation.
use Rattle.std.proofs.Common.{◌≡◌, ℕ, ℤ, List, [], ◌∷◌, Bool, true, false, cond, ◌&&◌, ◌||◌, ◌==◌, Option, Some, None, refl, sym, ◌∙◌, subst, int_eq}
use Rattle.machine.specs.Deadlines.{IsFirst}
use Rattle.machine.specs.Effect.{AreRising}
use Rattle.machine.specs.State.{Invocation}
use Rattle.machine.specs.Turns.{invocation_of}
use Rattle.machine_laws.proofs.Rising.{IsMap, rising_map}
use Rattle.deadlines.specs.declared.timer.Timer.{Timer}
use Rattle.deadlines.specs.First as timers
use Rattle.deadlines.specs.Timers.{IsIn, TimerSet, timer_of}
use Rattle.csl.specs.First.{IsTimerOf}
use Rattle.csl.specs.Tables.{HaveTimers, InvocationLists, has_timer, invocations_at}
use Rattle.csl.proofs.Timing.{timer_of_it, timer_stands}

absent_timed : (j : ℤ) (t : ℕ) (vs : List Invocation) → invocation_of j vs ≡ None → has_timer vs j t ≡ false
absent_timed j t [] e = refl
absent_timed j t (v ∷ vs) e = by (int_eq v.id j) e (absent_timed j t vs)
  where
    by : (b : Bool) → cond b (Some v) (invocation_of j vs) ≡ None → (invocation_of j vs ≡ None → has_timer vs j t ≡ false)
        → ((b && (v.deadline == t)) || has_timer vs j t) ≡ false
    by true e rest = cc
    by false e rest = rest e

-- a timer is that of the invocation that stands
timed_stands : (j : ℤ) (t : ℕ) (vs : List Invocation) → IsMap vs → has_timer vs j t ≡ true
    → (v : Invocation) × (invocation_of j vs ≡ Some v) × (v.deadline ≡ t)
timed_stands j t vs m h = by (invocation_of j vs) refl
  where
    by : (o : Option Invocation) → invocation_of j vs ≡ o → (v : Invocation) × (invocation_of j vs ≡ Some v) × (v.deadline ≡ t)
    by None e = let none : false ≡ true = sym (absent_timed j t vs e) ∙ h in absurd cc
    by (Some v) e = (v, e, timer_of_it j t vs v m e h)

module _ (lists : InvocationLists) (d : TimerSet) (have : HaveTimers lists d) (rising : (id : List ℕ) → AreRising (invocations_at lists id)) where
  is_timer_of : (t : Timer) → IsIn d t → IsTimerOf lists t.deadline
  is_timer_of t e =
      let vs = invocations_at lists t.invocation.id in
      let found : (v : Invocation) × (invocation_of t.invocation.invoke vs ≡ Some v) × (v.deadline ≡ t.deadline) =
      timed_stands t.invocation.invoke t.deadline vs (rising_map vs (rising t.invocation.id)) (sym (have t) ∙ e) in
      record { id = t.invocation.id; invoke = t.invocation.invoke; own = found.0; stands = found.1; deadline_is = found.2 }

  is_in : (t : ℕ) (is : IsTimerOf lists t) → IsIn d (timer_of t is.id is.invoke)
  is_in t is =
      subst (λ (n : ℕ). IsIn d (timer_of n is.id is.invoke)) is.deadline_is
      (have (timer_of is.own.deadline is.id is.invoke) ∙ timer_stands is.invoke (invocations_at lists is.id) is.own is.stands)

  pub first_of : (o : Option ℕ) → timers.IsFirst (IsIn d) o → IsFirst (IsTimerOf lists) o
  first_of None none = λ t is. none (timer_of t is.id is.invoke) (is_in t is)
  first_of (Some first) ((t, one, e), least) =
      (subst (IsTimerOf lists) e (is_timer_of t one), λ t is. least (timer_of t is.id is.invoke) (is_in t is))
