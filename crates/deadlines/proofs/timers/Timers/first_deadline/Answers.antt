use Rattle.std.proofs.Common.{◌≡◌, ◌≤◌, inl, inr, Bool, true, List, [], ◌∷◌, length, ◌<◌, ap, sym, ◌∙◌, refl, arith}
use Rattle.std.proofs.lemmas.Bool.{cases_lt}
use Rattle.std.specs.List.{list_any}
use Rattle.deadlines.specs.declared.timer.Timer.{Timer}
use Rattle.deadlines.specs.Timers.{TimerSet}
use Rattle.deadlines.specs.Index.{has}
use Rattle.deadlines.proofs.KeyLemmas.{not_less, earlier_less}
use Rattle.deadlines.proofs.SetLemmas.{has_key}
use Rattle.deadlines.proofs.timers.Timers.first_deadline.Goals as goal

some_key : {K : Type 0} (p : K → Bool) (ks : List K) → list_any p ks ≡ true → 0 < length ks
some_key p [] e = cc
some_key p (k ∷ ks) e = omega arith

pub returns-in_default : goal.returns-in_default
returns-in_default c = λ t e.
    let key = λ (t : Timer). ap (λ (s : TimerSet). has s t) (sym c.self.view_is) ∙ has_key c.self.inside.by_deadline t in
    let is_some = c.first.ensures.variant.1 (some_key _ c.self.inside.by_deadline.keys (sym (key t) ∙ e)) in
    let none = rw c.in_default.is at is_some in
    cc

pub returns : goal.returns
returns c =
    let key = λ (t : Timer). ap (λ (s : TimerSet). has s t) (sym c.self.view_is) ∙ has_key c.self.inside.by_deadline t in
    let first = c.in-Some.first.now in (
      (first, key first ∙ c.in-Some.ensures.member, refl),
      λ t e. elim (cases_lt t.deadline first.deadline) [
        | inl h ↦ absurd (not_less first t (c.in-Some.ensures.least t (sym (key t) ∙ e)) (earlier_less t first h))
        | inr h ↦ h
      ],
    )
