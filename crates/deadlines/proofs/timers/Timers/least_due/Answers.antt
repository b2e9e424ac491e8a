use Rattle.std.proofs.Common.{◌≡◌, ◌<◌, ◌≤◌, inl, inr, Bool, true, List, [], ◌∷◌, length, ap, sym, ◌∙◌, arith}
use Rattle.std.proofs.lemmas.Bool.{cases_lt}
use Rattle.std.specs.List.{list_any}
use Rattle.deadlines.specs.declared.timer.Timer.{Timer}
use Rattle.deadlines.specs.Timers.{TimerSet}
use Rattle.deadlines.specs.Index.{has}
use Rattle.deadlines.proofs.KeyLemmas.{not_less, earlier_less}
use Rattle.deadlines.proofs.SetLemmas.{has_key}
use Rattle.deadlines.proofs.timers.Timers.least_due.Goals as goal

some_key : {K : Type 0} (p : K → Bool) (ks : List K) → list_any p ks ≡ true → 0 < length ks
some_key p [] e = cc
some_key p (k ∷ ks) e = omega arith

pub returns-then-due-now-clause-due : goal.returns-then-due-now-clause-due
returns-then-due-now-clause-due c =
    let key = λ (t : Timer). ap (λ (s : TimerSet). has s t) (sym c.self.view_is) ∙ has_key c.self.inside.by_deadline t in
    let due = c.in-Some.due.now in
    record {
      one = key due ∙ c.in-Some.ensures.member;
      come = c.if-due-now.true;
      least = λ t e less. not_less due t (c.in-Some.ensures.least t (sym (key t) ∙ e)) less;
    }

pub returns-else-due-now-clause-none : goal.returns-else-due-now-clause-none
returns-else-due-now-clause-none c = λ t e.
    let key = λ (t : Timer). ap (λ (s : TimerSet). has s t) (sym c.self.view_is) ∙ has_key c.self.inside.by_deadline t in
    let due = c.in-Some.due.now in
    let late : due.deadline ≤ t.deadline = elim (cases_lt t.deadline due.deadline) [
      | inl h ↦ absurd (not_less due t (c.in-Some.ensures.least t (sym (key t) ∙ e)) (earlier_less t due h))
      | inr h ↦ h
    ] in
    omega (arith, late, c.if-due-now.false)

pub returns-in_default-clause-none : goal.returns-in_default-clause-none
returns-in_default-clause-none c = λ t e.
    let key = λ (t : Timer). ap (λ (s : TimerSet). has s t) (sym c.self.view_is) ∙ has_key c.self.inside.by_deadline t in
    let is_some = c.first.ensures.variant.1 (some_key _ c.self.inside.by_deadline.keys (sym (key t) ∙ e)) in
    let none = rw c.in_default.is at is_some in
    cc
