-- The timers where the list of a dialogue is replaced, by what the calls ensure of the slices that they get.
use Rattle.std.proofs.Common.{◌≡◌, ℕ, List, [], true, false, cond, ap, ◌∙◌}
use Rattle.machine.specs.State.{Invocation}
use Rattle.deadlines.specs.declared.timer.Timer.{Timer}
use Rattle.deadlines.specs.Timers.{TimerSet}
use Rattle.deadlines.specs.Index.{has}
use Rattle.csl.specs.Tables.{HaveTimers, InvocationLists, invocations_at, is_of, is_only, put_list}
use Rattle.csl.proofs.Putting.{at-put_list, own_id}
use Rattle.csl.proofs.Timing.{have_first, have_replaced, have_taken_back}

module _ (lists : InvocationLists) (d : TimerSet) (id : List ℕ) (have : HaveTimers lists d) (list us : List Invocation) (us_is : us ≡ list)
    (d₁ : TimerSet) (inserted : (t : Timer) → has d₁ t ≡ cond (is_of id us t) true (has d t)) where
  of_list : (t : Timer) → has d₁ t ≡ cond (is_of id list t) true (has d t)
  of_list t = inserted t ∙ ap (λ vs. cond (is_of id vs t) true (has d t)) us_is

  pub first_put : invocations_at lists id ≡ [] → (new : InvocationLists) → new ≡ put_list lists id list → HaveTimers new d₁
  first_put none new is = have_first lists d id have list d₁ of_list none new is

  pub other_put : (new : InvocationLists) → new ≡ put_list lists id list → (ws ns : List Invocation) → ws ≡ invocations_at lists id
      → ns ≡ invocations_at new id → (d₂ : TimerSet)
      → ((t : Timer) → has d₂ t ≡ cond (is_only id ws ns t) false (has d₁ t)) → HaveTimers new d₂
  other_put new is ws ns old now d₂ removed =
      let new_is = now ∙ ap (λ (l : InvocationLists). invocations_at l id) is ∙ at-put_list lists id list id
      ∙ ap (λ b. cond b list (invocations_at lists id)) (own_id id) in
      have_replaced lists d id have list d₁ of_list new d₂ is (λ t. removed t ∙ ap (λ vs. cond (is_only id vs ns t) false (has d₁ t)) old
      ∙ ap (λ vs. cond (is_only id (invocations_at lists id) vs t) false (has d₁ t)) new_is)

  pub put_refused : (new : InvocationLists) → new ≡ lists → invocations_at lists id ≡ [] → (ws : List Invocation) → ws ≡ list → (d₂ : TimerSet)
      → ((t : Timer) → has d₂ t ≡ cond (is_only id ws [] t) false (has d₁ t)) → HaveTimers new d₂
  put_refused new same none ws ws_is d₂ removed =
      have_taken_back lists d id have list d₁ of_list new d₂ same none
      (λ t. removed t ∙ ap (λ vs. cond (is_only id vs [] t) false (has d₁ t)) ws_is)
