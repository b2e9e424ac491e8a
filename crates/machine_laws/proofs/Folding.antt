-- What a fold over components needs: the effect of one more component, from the table as it is then.
use Rattle.std.proofs.Common.{◌≡◌, ◌+◌, ℕ, ℤ, List, [], ◌∷◌, ◌++◌, Bool, true, false, cond, not, ◌&&◌, ◌||◌, refl, sym, ap, ◌∙◌, subst, Option, Some, None, is_some, append_assoc, append-nil, int_eq}
use Rattle.std.specs.Cmp.{int_eq_equiv}
use Rattle.machine.specs.Received.{Bad, ComponentOf, Ignored, Invoke, Reject, ResultLast, ResultNotLast, ReturnError}
use Rattle.machine.specs.Keys.{Every}
use Rattle.machine.specs.State.{Invocation, WaitForReject, is_sent}
use Rattle.machine.specs.Effect.{Offer, any_failed, concluded, concluded_by, concludes, concluding, in_sent, invocations_after, is_failure, open_at, reject_of, rejects_after}
use Rattle.machine.specs.declared.numbers.TheConstants.{REJECT_TIMER}
use Rattle.machine_laws.proofs.Rising.{int_is, IsMap, every_one, every_concluded, every_after}

pub not_in_sent : (j : ℤ) (vs : List Invocation) → Every (λ (u : Invocation). int_eq u.id j ≡ false) vs → in_sent j vs ≡ false
not_in_sent j [] h = refl
not_in_sent j (v ∷ vs) h = ap (λ b. cond b (is_sent v.was) (in_sent j vs)) h.0 ∙ not_in_sent j vs h.1

in_sent_past : (j : ℤ) (us ws : List Invocation) → Every (λ (u : Invocation). int_eq u.id j ≡ false) us → in_sent j (us ++ ws) ≡ in_sent j ws
in_sent_past j [] ws h = refl
in_sent_past j (u ∷ us) ws h = ap (λ b. cond b (is_sent u.was) (in_sent j (us ++ ws))) h.0 ∙ in_sent_past j us ws h.1

and_false : (b : Bool) → b && false ≡ false
and_false true = refl
and_false false = refl

module _ {P : Type 0} where
  -- the components one after the other

  concluding_append : (j : ℤ) (cs ds : List (ComponentOf P)) → concluding j (cs ++ ds)
      ≡ elim (concluding j cs) as (λ _. Option (ComponentOf P)) [ None ↦ concluding j ds | Some c ↦ Some c ]
  concluding_append j [] ds = refl
  concluding_append j (c ∷ cs) ds = go (concludes j c) (concluding_append j cs ds)
    where
      go : (b : Bool) → concluding j (cs ++ ds) ≡ elim (concluding j cs) as (λ _. Option (ComponentOf P)) [ None ↦ concluding j ds | Some c ↦ Some c ]
          → cond b (Some c) (concluding j (cs ++ ds)) ≡ elim (cond b (Some c) (concluding j cs)) as
          (λ _. Option (ComponentOf P)) [ None ↦ concluding j ds | Some c ↦ Some c ]
      go true h = refl
      go false h = h

  pub rejects_more : (offer : Offer) (vs : List Invocation) (earlier cs : List (ComponentOf P)) (c : ComponentOf P)
      → rejects_after offer vs earlier (cs ++ c ∷ []) ≡ rejects_after offer vs earlier cs ++ reject_of offer vs (earlier ++ cs) c
  rejects_more offer vs earlier [] c = append-nil (reject_of offer vs earlier c)
      ∙ ap (λ (es : List (ComponentOf P)). reject_of offer vs es c) (sym (append-nil earlier))
  rejects_more offer vs earlier (k ∷ cs) c =
      ap (λ rs. reject_of offer vs earlier k ++ rs) (rejects_more offer vs (earlier ++ k ∷ []) cs c)
      ∙ sym (append_assoc (reject_of offer vs earlier k) (rejects_after offer vs (earlier ++ k ∷ []) cs) (reject_of offer vs ((earlier ++ k ∷ []) ++ cs) c))
      ∙ ap (λ (es : List (ComponentOf P)). (reject_of offer vs earlier k ++ rejects_after offer vs (earlier ++ k ∷ []) cs) ++ reject_of offer vs es c)
      (append_assoc earlier (k ∷ []) cs)

  pub after_append : (now : ℕ) (cs : List (ComponentOf P)) (us vs : List Invocation)
      → invocations_after now cs (us ++ vs) ≡ invocations_after now cs us ++ invocations_after now cs vs
  after_append now cs [] vs = refl
  after_append now cs (u ∷ us) vs = ap (λ ws. concluded now cs u ++ ws) (after_append now cs us vs)
      ∙ sym (append_assoc (concluded now cs u) (invocations_after now cs us) (invocations_after now cs vs))

  -- one invocation: first by some components, then by others
  concluded_more : (now : ℕ) (cs ds : List (ComponentOf P)) (v : Invocation) → concluded now (cs ++ ds) v ≡ invocations_after now ds (concluded now cs v)
  concluded_more now cs ds v = by (is_sent v.was) refl
    where
      single : (u : Invocation) → is_sent u.was ≡ false → (u ∷ []) ≡ invocations_after now ds (u ∷ [])
      single u q = sym (ap (λ b. cond b (concluded_by now u (concluding u.id ds)) (u ∷ []) ++ []) q)

      again : (u : Invocation) → is_sent u.was ≡ true → concluded_by now u (concluding u.id ds) ≡ invocations_after now ds (u ∷ [])
      again u q = sym (ap (λ b. cond b (concluded_by now u (concluding u.id ds)) (u ∷ []) ++ []) q ∙ append-nil (concluded_by now u (concluding u.id ds)))

      done : (c : ComponentOf P) → concluded_by now v (Some c) ≡ invocations_after now ds (concluded_by now v (Some c))
      done (Reject id side problem) = refl
      done (ResultLast id) = refl
      done (ResultNotLast id) = refl
      done (ReturnError id error) = refl
      done (Invoke id linked operation p) = refl
      done (Bad id problem) = refl
      done Ignored = refl

      found : (o : Option (ComponentOf P)) → is_sent v.was ≡ true
          → concluded_by now v (elim o as (λ _. Option (ComponentOf P)) [ None ↦ concluding v.id ds | Some c ↦ Some c ])
          ≡ invocations_after now ds (concluded_by now v o)
      found None q = again v q
      found (Some c) q = done c

      by : (b : Bool) → is_sent v.was ≡ b → cond b (concluded_by now v (concluding v.id (cs ++ ds))) (v ∷ [])
          ≡ invocations_after now ds (cond b (concluded_by now v (concluding v.id cs)) (v ∷ []))
      by true q = ap (λ o. concluded_by now v o) (concluding_append v.id cs ds) ∙ found (concluding v.id cs) q
      by false q = single v q

  pub invocations_more : (now : ℕ) (cs ds : List (ComponentOf P)) (vs : List Invocation)
      → invocations_after now (cs ++ ds) vs ≡ invocations_after now ds (invocations_after now cs vs)
  invocations_more now cs ds [] = refl
  invocations_more now cs ds (v ∷ vs) =
      ap (λ ws. ws ++ invocations_after now (cs ++ ds) vs) (concluded_more now cs ds v)
      ∙ ap (λ ws. invocations_after now ds (concluded now cs v) ++ ws) (invocations_more now cs ds vs)
      ∙ sym (after_append now ds (concluded now cs v) (invocations_after now cs vs))

  -- an id is in Operation Sent and not concluded by earlier components exactly if the table after them has it in Operation Sent
  pub open_is_sent : (now : ℕ) (vs : List Invocation) (cs : List (ComponentOf P)) (j : ℤ) → IsMap vs → open_at vs cs j ≡ in_sent j (invocations_after now cs vs)
  open_is_sent now [] cs j m = refl
  open_is_sent now (v ∷ vs) cs j m = by (int_eq v.id j) refl (open_is_sent now vs cs j m.1)
    where
      rest_none : v.id ≡ j → in_sent j (invocations_after now cs vs) ≡ false
      rest_none e = not_in_sent j (invocations_after now cs vs) (every_after (λ i. int_eq i j ≡ false) now cs vs
          (every_one (λ u. int_eq u.id v.id ≡ false) (λ u. int_eq u.id j ≡ false) (λ u q. subst (λ i. int_eq u.id i ≡ false) e q) vs m.0))

      keeps_off : (k : Invocation) → int_eq v.id j ≡ true → in_sent j
          (record { id = v.id; was = WaitForReject; deadline = now + REJECT_TIMER } ∷ invocations_after now cs vs) ≡ false
      keeps_off k q = ap (λ b. cond b false (in_sent j (invocations_after now cs vs))) q

      ended : int_eq v.id j ≡ true → v.id ≡ j → (c : ComponentOf P) → false ≡ in_sent j (concluded_by now v (Some c) ++ invocations_after now cs vs)
      ended q e (Reject id side problem) = sym (rest_none e)
      ended q e (ResultLast id) = sym (keeps_off v q)
      ended q e (ResultNotLast id) = sym (keeps_off v q)
      ended q e (ReturnError id error) = sym (keeps_off v q)
      ended q e (Invoke id linked operation p) = sym (keeps_off v q)
      ended q e (Bad id problem) = sym (keeps_off v q)
      ended q e Ignored = sym (keeps_off v q)

      found : int_eq v.id j ≡ true → v.id ≡ j → is_sent v.was ≡ true → (o : Option (ComponentOf P))
          → not (is_some o) ≡ in_sent j (concluded_by now v o ++ invocations_after now cs vs)
      found q e s None = sym (ap (λ b. cond b (is_sent v.was) (in_sent j (invocations_after now cs vs))) q ∙ s)
      found q e s (Some c) = ended q e c

      here : int_eq v.id j ≡ true → v.id ≡ j → (b : Bool) → is_sent v.was ≡ b
          → b && not (is_some (concluding j cs)) ≡ in_sent j (cond b (concluded_by now v (concluding v.id cs)) (v ∷ []) ++ invocations_after now cs vs)
      here q e true s = subst (λ i. not (is_some (concluding i cs)) ≡ in_sent j (concluded_by now v (concluding v.id cs) ++ invocations_after now cs vs)) e
          (found q e s (concluding v.id cs))
      here q e false s = sym (ap (λ b. cond b (is_sent v.was) (in_sent j (invocations_after now cs vs))) q ∙ s)

      by : (b : Bool) → int_eq v.id j ≡ b → open_at vs cs j ≡ in_sent j (invocations_after now cs vs)
          → (cond b (is_sent v.was) (in_sent j vs)) && not (is_some (concluding j cs)) ≡ in_sent j (concluded now cs v ++ invocations_after now cs vs)
      by true q ih = here q (int_is v.id j q) (is_sent v.was) refl
      by false q ih = ih ∙ sym (in_sent_past j (concluded now cs v) (invocations_after now cs vs) (every_concluded (λ i. int_eq i j ≡ false) now cs v q))

  -- the failures, one component more
  failed_append : (cs : List (ComponentOf P)) (us vs : List Invocation) → any_failed cs (us ++ vs) ≡ any_failed cs us || any_failed cs vs
  failed_append cs [] vs = refl
  failed_append cs (u ∷ us) vs = by (is_sent u.was && is_failure (concluding u.id cs)) (failed_append cs us vs)
    where
      by : (b : Bool) → any_failed cs (us ++ vs) ≡ any_failed cs us || any_failed cs vs
          → cond b true (any_failed cs (us ++ vs)) ≡ cond b true (any_failed cs us) || any_failed cs vs
      by true h = refl
      by false h = h

  failed_one : (now : ℕ) (cs ds : List (ComponentOf P)) (v : Invocation)
      → is_sent v.was && is_failure (concluding v.id (cs ++ ds)) ≡ (is_sent v.was && is_failure (concluding v.id cs)) || any_failed ds (concluded now cs v)
  failed_one now cs ds v = by (is_sent v.was) refl
    where
      off : (t : Bool) → cond t true false ≡ t
      off true = refl
      off false = refl

      either_way : (t : Bool) → t ≡ t || false
      either_way true = refl
      either_way false = refl

      none_left : (c : ComponentOf P) → any_failed ds (concluded_by now v (Some c)) ≡ false
      none_left (Reject id side problem) = refl
      none_left (ResultLast id) = refl
      none_left (ResultNotLast id) = refl
      none_left (ReturnError id error) = refl
      none_left (Invoke id linked operation p) = refl
      none_left (Bad id problem) = refl
      none_left Ignored = refl

      found : (o : Option (ComponentOf P)) → is_sent v.was ≡ true
          → is_failure (elim o as (λ _. Option (ComponentOf P)) [ None ↦ concluding v.id ds | Some c ↦ Some c ])
          ≡ is_failure o || any_failed ds (concluded_by now v o)
      found None q = sym (ap (λ b. cond (b && is_failure (concluding v.id ds)) true false) q ∙ off (is_failure (concluding v.id ds)))
      found (Some c) q = either_way (is_failure (Some c)) ∙ sym (ap (λ b. is_failure (Some c) || b) (none_left c))

      by : (b : Bool) → is_sent v.was ≡ b → b && is_failure (concluding v.id (cs ++ ds))
          ≡ (b && is_failure (concluding v.id cs)) || any_failed ds (cond b (concluded_by now v (concluding v.id cs)) (v ∷ []))
      by true q = ap (λ o. is_failure o) (concluding_append v.id cs ds) ∙ found (concluding v.id cs) q
      by false q = sym (ap (λ b. cond (b && is_failure (concluding v.id ds)) true false) q)

  pub failed_more : (now : ℕ) (cs ds : List (ComponentOf P)) (vs : List Invocation)
      → any_failed (cs ++ ds) vs ≡ any_failed cs vs || any_failed ds (invocations_after now cs vs)
  failed_more now cs ds [] = refl
  failed_more now cs ds (v ∷ vs) =
      ap (λ b. cond b true (any_failed (cs ++ ds) vs)) (failed_one now cs ds v)
      ∙ ap (λ b. cond ((is_sent v.was && is_failure (concluding v.id cs)) || any_failed ds (concluded now cs v)) true b) (failed_more now cs ds vs)
      ∙ shuffled (is_sent v.was && is_failure (concluding v.id cs)) (any_failed ds (concluded now cs v)) (any_failed cs vs)
      (any_failed ds (invocations_after now cs vs))
      ∙ ap (λ b. cond (is_sent v.was && is_failure (concluding v.id cs)) true (any_failed cs vs) || b)
      (sym (failed_append ds (concluded now cs v) (invocations_after now cs vs)))
    where
      shuffled : (a b c d : Bool) → cond (a || b) true (c || d) ≡ cond a true c || (b || d)
      shuffled true b c d = refl
      shuffled false true true d = refl
      shuffled false true false d = refl
      shuffled false false c d = refl

-- a result whose id is not in Operation Sent concludes nothing
pub unsent_stays : (P : Type 0) (now : ℕ) (j : ℤ) (vs : List Invocation) → IsMap vs → in_sent j vs ≡ false
    → invocations_after {P = P} now (ResultLast j ∷ []) vs ≡ vs
unsent_stays P now j [] m e = refl
unsent_stays P now j (v ∷ vs) m e = by (int_eq v.id j) refl e (λ q. unsent_stays P now j vs m.1 q)
  where
    kept : (b : Bool) → is_sent v.was ≡ b → cond b (int_eq j v.id) false ≡ false → concluded {P = P} now (ResultLast j ∷ []) v ≡ v ∷ []
    kept true s q = ap (λ b. cond b (concluded_by {P = P} now v (cond (int_eq j v.id) (Some (ResultLast j)) None)) (v ∷ [])) s
        ∙ ap (λ b. concluded_by {P = P} now v (cond b (Some (ResultLast j)) None)) q
    kept false s q = ap (λ b. cond b (concluded_by {P = P} now v (cond (int_eq j v.id) (Some (ResultLast j)) None)) (v ∷ [])) s

    off : (b : Bool) → int_eq j v.id ≡ false → cond b (int_eq j v.id) false ≡ false
    off true q = q
    off false q = refl

    by : (b : Bool) → int_eq v.id j ≡ b → cond b (is_sent v.was) (in_sent j vs) ≡ false
        → (in_sent j vs ≡ false → invocations_after {P = P} now (ResultLast j ∷ []) vs ≡ vs)
        → concluded {P = P} now (ResultLast j ∷ []) v ++ invocations_after {P = P} now (ResultLast j ∷ []) vs ≡ v ∷ vs
    by true q f next =
        let same_id : v.id ≡ j = int_is v.id j q in
        ap (λ us. us ++ invocations_after {P = P} now (ResultLast j ∷ []) vs) (kept false f refl)
        ∙ ap (λ ws. v ∷ ws) (next (not_in_sent j vs (subst (λ i. Every (λ (u : Invocation). int_eq u.id i ≡ false) vs) same_id m.0)))
    by false q f next =
        ap (λ us. us ++ invocations_after {P = P} now (ResultLast j ∷ []) vs) (kept (is_sent v.was) refl (off (is_sent v.was) (int_eq_equiv.symm j v.id ∙ q)))
        ∙ ap (λ ws. v ∷ ws) (next f)
