use Rattle.std.proofs.Common.{Option, Some, None, ap, sym, ◌∙◌, ℕ}
use Rattle.std.specs.Prelude.{IfSome, IfNone}
use Rattle.std.specs.FinMap as map
use Rattle.deadlines.specs.declared.timer.Invocation.{Invocation}
use Rattle.deadlines.specs.declared.timer.Timer.{Timer}
use Rattle.deadlines.specs.Timers.{DeadlineMap, IsLeastOf, NoneDueOf}
use Rattle.deadlines.proofs.Views.{get_view}
use Rattle.deadlines.proofs.KeyLemmas.{invocation_total}
use Rattle.deadlines.proofs.deadlines.Deadlines.least_timer.Goals as goal

-- the same timers, said in another way
least_alike : (P Q : Timer → Type 0) (now : ℕ) (o : Option Timer) → ((t : Timer) → P t → Q t) → ((t : Timer) → Q t → P t)
    → IfSome o (IsLeastOf P now) → IfSome o (IsLeastOf Q now)
least_alike P Q now None to from h = tt
least_alike P Q now (Some due) to from h = record { one = to due h.one; come = h.come; least = λ t q. h.least t (from t q) }

none_alike : (P Q : Timer → Type 0) (now : ℕ) (o : Option Timer) → ((t : Timer) → Q t → P t) → IfNone o (NoneDueOf P now) → IfNone o (NoneDueOf Q now)
none_alike P Q now None from h = λ t q. h t (from t q)
none_alike P Q now (Some due) from h = tt

pub returns-clause-due : goal.returns-clause-due
returns-clause-due c =
    let i = c.self.inside in
    let view = λ (k : Invocation). ap (λ (m : DeadlineMap). map.get m k) (sym c.self.view_is) ∙ get_view invocation_total i.by_invocation.entries k in
    least_alike _ _ c.args.now c.least_due.result (λ t h. view t.invocation ∙ c.self.invariant.only t h)
    (λ t e. c.self.invariant.all t (sym (view t.invocation) ∙ e)) c.least_due.ensures.due

pub returns-clause-none : goal.returns-clause-none
returns-clause-none c =
    let i = c.self.inside in
    let view = λ (k : Invocation). ap (λ (m : DeadlineMap). map.get m k) (sym c.self.view_is) ∙ get_view invocation_total i.by_invocation.entries k in
    none_alike _ _ c.args.now c.least_due.result (λ t e. c.self.invariant.all t (sym (view t.invocation) ∙ e)) c.least_due.ensures.none
