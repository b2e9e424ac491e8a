-- Components that are applied one by one.
use Rattle.std.proofs.Common.{◌≡◌, ℕ, ◌+◌, ◌<◌, ◌≤◌, ℤ, List, [], ◌∷◌, ◌++◌, length, take, map, get_or, Bool, true, false, cond, not, ◌&&◌, ◌||◌, Option, Some, None, refl, sym, ap, ◌∙◌, subst, arith, add-one}
use Rattle.std.specs.List.{list_any}
use Rattle.std.specs.Option.{option_map, option_to_list}
use Rattle.std.proofs.lemmas.List.{map_more, map-append, take_all}
use Rattle.machine.specs.Received.{Bad, ComponentOf, Ignored, Invoke, OfError, OfResult, Reject, ResultLast, ResultNotLast, ReturnError}
use Rattle.machine.specs.Sent.{Rejection}
use Rattle.machine.specs.State.{Invocation, any_sent, is_sent}
use Rattle.machine.specs.Effect.{AreRising, Offer, any_failed, conclusion_of, effect, in_sent, invocations_after, is_empty, is_id, is_open_id, linked_to, open_at, problem_of, reject_answer, reject_invoke, reject_of, rejects_after, starts, started_by}
use Rattle.machine_laws.proofs.Folding.{failed_more, invocations_more, open_is_sent, rejects_more}
use Rattle.machine_laws.proofs.Rising.{rising_map}
use Rattle.q773_comp.specs.declared.component.Component as code
use Rattle.q773_comp.specs.declared.sending.Rejection as codec
use Rattle.q773_comp.specs.Seen.{rejection}
use Rattle.csl.specs.declared.offer.Effect as csl
use Rattle.csl.specs.Seen.{heard}
use Rattle.csl.specs.Effects.{IsEffect, concluded, linked_now, reject_now}
use Rattle.csl.proofs.Places.{any_sent_is}

-- the invariant of a loop over components, after the earlier ones
pub record AreHeard {P : Type 0} (now : ℕ) (offer : Offer) (vs : List Invocation) (earlier : List (ComponentOf P)) (list : List Invocation)
    (rejects : List Rejection) (failed : Bool) : Type 0 where
  pub moved : list ≡ invocations_after now earlier vs
  pub rejected : rejects ≡ rejects_after offer vs [] earlier
  pub has_failed : failed ≡ any_failed earlier vs

module _ (P : Type 0) where
  pub after_none : (now : ℕ) (vs : List Invocation) → vs ≡ invocations_after {P = P} now [] vs
  after_none now [] = refl
  after_none now (v ∷ vs) = ap (λ us. v ∷ us) (after_none now vs) ∙ sym (one (is_sent v.was))
    where
      one : (b : Bool) → cond b (v ∷ []) (v ∷ []) ++ invocations_after {P = P} now [] vs ≡ v ∷ invocations_after {P = P} now [] vs
      one true = refl
      one false = refl

  failed_none : (vs : List Invocation) → false ≡ any_failed {P = P} [] vs
  failed_none [] = refl
  failed_none (v ∷ vs) = failed_none vs ∙ sym (one (is_sent v.was))
    where
      one : (b : Bool) → cond (b && false) true (any_failed {P = P} [] vs) ≡ any_failed {P = P} [] vs
      one true = refl
      one false = refl

module _ {P : Type 0} where
  pub none_heard : (now : ℕ) (offer : Offer) (vs : List Invocation) → AreHeard {P = P} now offer vs [] vs [] false
  none_heard now offer vs = record { moved = after_none P now vs; rejected = refl; has_failed = failed_none P vs }

  -- the Reject of one, by the invocations at that point
  module _ (offer : Offer) (vs list : List Invocation) (started : Option ℤ) (is_first : Bool) (earlier : List (ComponentOf P))
      (open_same : (j : ℤ) → open_at vs earlier j ≡ in_sent j list)
      (start_same : (id : ℤ) → (not is_first && is_id started id) ≡ is_id (starts offer vs earlier) id)
      (first_same : is_first ≡ is_empty earlier) where
    linked_same : (linked : Option ℤ) → linked_now list linked ≡ linked_to vs earlier linked
    linked_same None = refl
    linked_same (Some id) = ap (λ b. Some b) (sym (open_same id))

    reject_same : (c : ComponentOf P) → reject_now offer list started is_first c ≡ reject_of offer vs earlier c
    reject_same (Invoke id linked operation p) =
        ap (λ b. reject_invoke id (problem_of offer (is_id offer.open_id id || b) (linked_now list linked) operation is_first)) (start_same id)
        ∙ ap (λ l. reject_invoke id (problem_of offer (is_open_id offer vs earlier id) l operation is_first)) (linked_same linked)
        ∙ ap (λ b. reject_invoke id (problem_of offer (is_open_id offer vs earlier id) (linked_to vs earlier linked) operation b)) first_same
    reject_same (ResultLast id) = ap (reject_answer id OfResult) (sym (open_same id))
    reject_same (ResultNotLast id) = ap (reject_answer id OfResult) (sym (open_same id))
    reject_same (ReturnError id error) = ap (reject_answer id OfError) (sym (open_same id))
    reject_same (Reject id side problem) = refl
    reject_same (Bad id problem) = refl
    reject_same Ignored = refl

-- one more
one_heard : {P : Type 0} (now : ℕ) (offer : Offer) (vs : List Invocation) → AreRising vs → (earlier : List (ComponentOf P)) (c : ComponentOf P)
    (started : Option ℤ) (is_first : Bool) → ((id : ℤ) → (not is_first && is_id started id) ≡ is_id (starts offer vs earlier) id)
    → is_first ≡ is_empty earlier
    → (list : List Invocation) (rejects : List Rejection) (failed : Bool) → AreHeard now offer vs earlier list rejects failed
    → (list' : List Invocation) (rejects' : List Rejection) (failed' : Bool)
    → list' ≡ invocations_after now (c ∷ []) list → rejects' ≡ rejects ++ reject_now offer list started is_first c
    → failed' ≡ failed || any_failed (c ∷ []) list
    → AreHeard now offer vs (earlier ++ c ∷ []) list' rejects' failed'
one_heard now offer vs rising earlier c started is_first start_same first_same list rejects failed h list' rejects' failed' new_list new_rejects new_failed =
    let same : reject_now offer list started is_first c ≡ reject_of offer vs earlier c =
    reject_same offer vs list started is_first earlier
    (λ j. open_is_sent now vs earlier j (rising_map vs rising) ∙ ap (in_sent j) (sym h.moved)) start_same first_same c in
    record {
      moved = new_list ∙ ap (invocations_after now (c ∷ [])) h.moved ∙ sym (invocations_more now earlier (c ∷ []) vs);
      rejected = new_rejects ∙ ap (λ rs. rs ++ reject_now offer list started is_first c) h.rejected
          ∙ ap (λ rs. rejects_after offer vs [] earlier ++ rs) same ∙ sym (rejects_more offer vs [] earlier c);
      has_failed = new_failed ∙ ap (λ b. b || any_failed (c ∷ []) list) h.has_failed
          ∙ ap (λ us. any_failed earlier vs || any_failed (c ∷ []) us) h.moved ∙ sym (failed_more now earlier (c ∷ []) vs);
    }

-- one more after the first
module _ {P : Type 0} (now : ℕ) (offer : Offer) (vs : List Invocation) (rising : AreRising vs) (all : List (code.Component P)) (first : code.Component P)
    (xs : List (code.Component P)) (whole : all ≡ first ∷ xs) where
  taken : (i : ℕ) → map heard (take (i + 1) all) ≡ heard first ∷ map heard (take i xs)
  taken i = ap (λ ys. map heard (take (i + 1) ys)) whole ∙ rw add-one

  pub later_one : (i : ℕ) (x : code.Component P) → i < length xs → x ≡ get_or xs i x
      → (started : Option ℤ) → started ≡ started_by offer vs (heard first)
      → (list : List Invocation) (rejects : List Rejection) (failed : Bool) → AreHeard now offer vs (map heard (take (i + 1) all)) list rejects failed
      → (list' : List Invocation) (rejects' : List Rejection) (failed' : Bool)
      → list' ≡ invocations_after now (heard x ∷ []) list → rejects' ≡ rejects ++ reject_now offer list started false (heard x)
      → failed' ≡ failed || any_failed (heard x ∷ []) list
      → AreHeard now offer vs (map heard (take ((i + 1) + 1) all)) list' rejects' failed'
  later_one i x l at started is_started list rejects failed h list' rejects' failed' new_list new_rejects new_failed =
      let more = map_more heard xs i x l ∙ ap (λ y. map heard (take i xs) ++ heard y ∷ []) (sym at) in
      subst (λ cs. AreHeard now offer vs cs list' rejects' failed') (sym (taken (i + 1) ∙ ap (λ cs. heard first ∷ cs) more))
      (one_heard now offer vs rising (heard first ∷ map heard (take i xs)) (heard x) started false (λ id. ap (λ s. is_id s id) is_started) refl
      list rejects failed (subst (λ cs. AreHeard now offer vs cs list rejects failed) (taken i) h) list' rejects' failed' new_list new_rejects new_failed)

  pub all_heard : (i : ℕ) (list : List Invocation) (rejects : List Rejection) (failed : Bool)
      → AreHeard now offer vs (map heard (take (i + 1) all)) list rejects failed → length xs ≤ i
      → AreHeard now offer vs (map heard all) list rejects failed
  all_heard i list rejects failed h l =
      subst (λ ys. AreHeard now offer vs (map heard ys) list rejects failed) (take_all (i + 1) all (omega (arith, ap length whole))) h

pub rejections_push : (rs : List codec.Rejection) (o : Option codec.Rejection)
    → map rejection (rs ++ option_to_list o) ≡ map rejection rs ++ option_to_list (option_map rejection o)
rejections_push rs None = map-append rejection rs []
rejections_push rs (Some r) = map-append rejection rs (r ∷ [])

-- the effect, as the code returns it
pub heard_effect : {P : Type 0} (now : ℕ) (offer : Offer) (vs : List Invocation) (cs : List (ComponentOf P)) (answer : csl.Effect)
    (list : List Invocation) (failed still_sent : Bool) → AreHeard now offer vs cs list (map rejection answer.rejects.items) failed
    → answer.started ≡ starts offer vs cs → answer.left ≡ list → concluded answer.conclusion ≡ conclusion_of failed still_sent
    → still_sent ≡ list_any (λ (own : Invocation). is_sent own.was) list → IsEffect answer (effect now offer vs cs)
unfolding effect
heard_effect now offer vs cs answer list failed still_sent h started left conclusion sent =
    record {
      rejects = h.rejected;
      started = started;
      left = left ∙ h.moved;
      conclusion =
          conclusion ∙ ap (conclusion_of failed) (sent ∙ sym (any_sent_is list) ∙ ap any_sent h.moved)
          ∙ ap (λ b. conclusion_of b (any_sent (invocations_after now cs vs))) h.has_failed;
    }
