-- The effect of components does not depend on how parameters are represented.
use Rattle.std.proofs.Common.{◌≡◌, ℕ, ℤ, List, [], ◌∷◌, ◌++◌, map, Bool, true, false, cond, not, ◌&&◌, ◌||◌, Option, Some, None, refl, sym, ap, ◌∙◌}
use Rattle.std.specs.Option.{is_some, option_map}
use Rattle.std.proofs.lemmas.List.{map-append}
use Rattle.machine.specs.Received.{Bad, ComponentOf, Ignored, Invoke, OfError, OfResult, Reject, ResultLast, ResultNotLast, ReturnError}
use Rattle.machine.specs.State.{Invocation, any_sent, is_sent}
use Rattle.machine.specs.Effect.{Offer, any_failed, concluded, concluded_by, concludes, concluding, conclusion_of, effect, in_sent, invocations_after, is_empty, is_failure, is_id, is_open_id, linked_to, open_at, problem_of, reject_answer, reject_invoke, reject_of, rejects_after, started_by, starts}
use Rattle.q773_comp.specs.declared.component.Component as type
use Rattle.q773_comp.specs.declared.component.Component.TheVariants as code
use Rattle.q773_comp.specs.Seen.{component}
use Rattle.csl.specs.Seen.{heard}

module _ {A B : Type 0} (f : A → B) where
  -- a component with another parameter
  abbrev pub with_parameter : ComponentOf A → ComponentOf B
  with_parameter (Invoke id linked operation p) = Invoke id linked operation (option_map f p)
  with_parameter (ResultLast id) = ResultLast id
  with_parameter (ResultNotLast id) = ResultNotLast id
  with_parameter (ReturnError id error) = ReturnError id error
  with_parameter (Reject id side problem) = Reject id side problem
  with_parameter (Bad id problem) = Bad id problem
  with_parameter Ignored = Ignored

  concludes_same : (j : ℤ) (c : ComponentOf A) → concludes j (with_parameter c) ≡ concludes j c
  concludes_same j (Invoke id linked operation p) = refl
  concludes_same j (ResultLast id) = refl
  concludes_same j (ResultNotLast id) = refl
  concludes_same j (ReturnError id error) = refl
  concludes_same j (Reject None side problem) = refl
  concludes_same j (Reject (Some id) side problem) = refl
  concludes_same j (Bad id problem) = refl
  concludes_same j Ignored = refl

  concluding_same : (j : ℤ) (cs : List (ComponentOf A)) → concluding j (map with_parameter cs) ≡ option_map with_parameter (concluding j cs)
  concluding_same j [] = refl
  concluding_same j (c ∷ cs) = ap (λ b. cond b (Some (with_parameter c)) (concluding j (map with_parameter cs))) (concludes_same j c)
      ∙ by (concludes j c) (concluding_same j cs)
    where
      by : (b : Bool) → concluding j (map with_parameter cs) ≡ option_map with_parameter (concluding j cs)
          → cond b (Some (with_parameter c)) (concluding j (map with_parameter cs)) ≡ option_map with_parameter (cond b (Some c) (concluding j cs))
      by true h = refl
      by false h = h

  concluded_by_same : (now : ℕ) (v : Invocation) (o : Option (ComponentOf A)) → concluded_by now v (option_map with_parameter o) ≡ concluded_by now v o
  concluded_by_same now v None = refl
  concluded_by_same now v (Some (Invoke id linked operation p)) = refl
  concluded_by_same now v (Some (ResultLast id)) = refl
  concluded_by_same now v (Some (ResultNotLast id)) = refl
  concluded_by_same now v (Some (ReturnError id error)) = refl
  concluded_by_same now v (Some (Reject id side problem)) = refl
  concluded_by_same now v (Some (Bad id problem)) = refl
  concluded_by_same now v (Some Ignored) = refl

  is_failure_same : (o : Option (ComponentOf A)) → is_failure (option_map with_parameter o) ≡ is_failure o
  is_failure_same None = refl
  is_failure_same (Some (Invoke id linked operation p)) = refl
  is_failure_same (Some (ResultLast id)) = refl
  is_failure_same (Some (ResultNotLast id)) = refl
  is_failure_same (Some (ReturnError id error)) = refl
  is_failure_same (Some (Reject id side problem)) = refl
  is_failure_same (Some (Bad id problem)) = refl
  is_failure_same (Some Ignored) = refl

  is_some_same : (o : Option (ComponentOf A)) → is_some (option_map with_parameter o) ≡ is_some o
  is_some_same None = refl
  is_some_same (Some c) = refl

  concluded_same : (now : ℕ) (cs : List (ComponentOf A)) (v : Invocation) → concluded now (map with_parameter cs) v ≡ concluded now cs v
  concluded_same now cs v = ap (λ us. cond (is_sent v.was) us (v ∷ []))
      (ap (concluded_by now v) (concluding_same v.id cs) ∙ concluded_by_same now v (concluding v.id cs))

  after_same : (now : ℕ) (cs : List (ComponentOf A)) (vs : List Invocation) → invocations_after now (map with_parameter cs) vs ≡ invocations_after now cs vs
  after_same now cs [] = refl
  after_same now cs (v ∷ vs) = ap (λ us. us ++ invocations_after now (map with_parameter cs) vs) (concluded_same now cs v)
      ∙ ap (λ us. concluded now cs v ++ us) (after_same now cs vs)

  any_failed_same : (cs : List (ComponentOf A)) (vs : List Invocation) → any_failed (map with_parameter cs) vs ≡ any_failed cs vs
  any_failed_same cs [] = refl
  any_failed_same cs (v ∷ vs) =
      ap (λ o. cond (is_sent v.was && is_failure o) true (any_failed (map with_parameter cs) vs)) (concluding_same v.id cs)
      ∙ ap (λ b. cond (is_sent v.was && b) true (any_failed (map with_parameter cs) vs)) (is_failure_same (concluding v.id cs))
      ∙ ap (cond (is_sent v.was && is_failure (concluding v.id cs)) true) (any_failed_same cs vs)

  open_same : (vs : List Invocation) (earlier : List (ComponentOf A)) (j : ℤ) → open_at vs (map with_parameter earlier) j ≡ open_at vs earlier j
  open_same vs earlier j = ap (λ b. in_sent j vs && not b) (ap is_some (concluding_same j earlier) ∙ is_some_same (concluding j earlier))

  linked_same : (vs : List Invocation) (earlier : List (ComponentOf A)) (linked : Option ℤ)
      → linked_to vs (map with_parameter earlier) linked ≡ linked_to vs earlier linked
  linked_same vs earlier None = refl
  linked_same vs earlier (Some id) = ap (λ b. Some b) (open_same vs earlier id)

  started_same : (offer : Offer) (vs : List Invocation) (c : ComponentOf A) → started_by offer vs (with_parameter c) ≡ started_by offer vs c
  started_same offer vs (Invoke id None operation p) = refl
  started_same offer vs (Invoke id (Some j) operation p) = refl
  started_same offer vs (ResultLast id) = refl
  started_same offer vs (ResultNotLast id) = refl
  started_same offer vs (ReturnError id error) = refl
  started_same offer vs (Reject id side problem) = refl
  started_same offer vs (Bad id problem) = refl
  started_same offer vs Ignored = refl

  starts_same : (offer : Offer) (vs : List Invocation) (cs : List (ComponentOf A)) → starts offer vs (map with_parameter cs) ≡ starts offer vs cs
  starts_same offer vs [] = refl
  starts_same offer vs (c ∷ cs) = started_same offer vs c

  is_empty_same : (cs : List (ComponentOf A)) → is_empty (map with_parameter cs) ≡ is_empty cs
  is_empty_same [] = refl
  is_empty_same (c ∷ cs) = refl

  reject_same : (offer : Offer) (vs : List Invocation) (earlier : List (ComponentOf A)) (c : ComponentOf A)
      → reject_of offer vs (map with_parameter earlier) (with_parameter c) ≡ reject_of offer vs earlier c
  reject_same offer vs earlier (Invoke id linked operation p) =
      ap (λ s. reject_invoke id (problem_of offer (is_id offer.open_id id || is_id s id) (linked_to vs (map with_parameter earlier) linked) operation
      (is_empty (map with_parameter earlier)))) (starts_same offer vs earlier)
      ∙ ap (λ l. reject_invoke id (problem_of offer (is_open_id offer vs earlier id) l operation (is_empty (map with_parameter earlier))))
      (linked_same vs earlier linked)
      ∙ ap (λ b. reject_invoke id (problem_of offer (is_open_id offer vs earlier id) (linked_to vs earlier linked) operation b)) (is_empty_same earlier)
  reject_same offer vs earlier (ResultLast id) = ap (reject_answer id OfResult) (open_same vs earlier id)
  reject_same offer vs earlier (ResultNotLast id) = ap (reject_answer id OfResult) (open_same vs earlier id)
  reject_same offer vs earlier (ReturnError id error) = ap (reject_answer id OfError) (open_same vs earlier id)
  reject_same offer vs earlier (Reject id side problem) = refl
  reject_same offer vs earlier (Bad id problem) = refl
  reject_same offer vs earlier Ignored = refl

  rejects_same : (offer : Offer) (vs : List Invocation) (earlier cs : List (ComponentOf A))
      → rejects_after offer vs (map with_parameter earlier) (map with_parameter cs) ≡ rejects_after offer vs earlier cs
  rejects_same offer vs earlier [] = refl
  rejects_same offer vs earlier (c ∷ cs) =
      ap (λ rs. rs ++ rejects_after offer vs (map with_parameter earlier ++ with_parameter c ∷ []) (map with_parameter cs)) (reject_same offer vs earlier c)
      ∙ ap (λ es. reject_of offer vs earlier c ++ rejects_after offer vs es (map with_parameter cs)) (sym (map-append with_parameter earlier (c ∷ [])))
      ∙ ap (λ rs. reject_of offer vs earlier c ++ rs) (rejects_same offer vs (earlier ++ c ∷ []) cs)

  pub effect_same : (now : ℕ) (offer : Offer) (vs : List Invocation) (cs : List (ComponentOf A))
      → effect now offer vs (map with_parameter cs) ≡ effect now offer vs cs
  unfolding effect
  effect_same now offer vs cs = λ i. record {
    rejects = rejects_same offer vs [] cs i;
    started = starts_same offer vs cs i;
    invocations = after_same now cs vs i;
    conclusion = conclusion_of (any_failed_same cs vs i) (any_sent (after_same now cs vs i));
  }

  heard_as : (c : type.Component A) → component f c ≡ with_parameter (heard c)
  heard_as (code.Invoke id linked operation None) = refl
  heard_as (code.Invoke id linked operation (Some p)) = refl
  heard_as (code.ResultLast id) = refl
  heard_as (code.ResultNotLast id) = refl
  heard_as (code.ReturnError id error) = refl
  heard_as (code.Reject id side problem) = refl
  heard_as (code.Bad id problem) = refl
  heard_as code.Ignored = refl

  all_heard_as : (cs : List (type.Component A)) → map (component f) cs ≡ map with_parameter (map heard cs)
  all_heard_as [] = refl
  all_heard_as (c ∷ cs) = λ i. heard_as c i ∷ all_heard_as cs i

  pub parameters_have_no_effect : (now : ℕ) (offer : Offer) (vs : List Invocation) (cs : List (type.Component A))
      → effect now offer vs (map (component f) cs) ≡ effect now offer vs (map heard cs)
  parameters_have_no_effect now offer vs cs = ap (effect now offer vs) (all_heard_as cs) ∙ effect_same now offer vs (map heard cs)

  pub parameters_move_nothing : (now : ℕ) (vs : List Invocation) (cs : List (type.Component A))
      → invocations_after now (map (component f) cs) vs ≡ invocations_after now (map heard cs) vs
  parameters_move_nothing now vs cs = ap (λ es. invocations_after now es vs) (all_heard_as cs) ∙ after_same now (map heard cs) vs
