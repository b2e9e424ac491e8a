-- What one component does to the invocations of a dialogue.
use Rattle.std.proofs.Common.{◌≡◌, ℕ, ◌+◌, ℤ, List, [], ◌∷◌, ◌++◌, Bool, true, false, cond, ◌&&◌, Some, None, refl, sym, ap, ◌∙◌, subst, get_or, set, drop, length, arith, append-nil, ◌⊎◌, inl, inr}
use Rattle.std.proofs.lemmas.List.{length-set, take-append-le, take_all}
use Rattle.std.specs.List.{position, refill, remove}
use Rattle.std.specs.Ordering.{int_eq}
use Rattle.std.specs.Cmp.{int_eq_equiv}
use Rattle.machine.specs.Keys.{Every}
use Rattle.machine.specs.declared.numbers.TheConstants.{REJECT_TIMER}
use Rattle.machine.specs.State.{Invocation, WaitForReject, is_sent}
use Rattle.machine.specs.Received.{Bad, ComponentOf, General, Ignored, Invoke, OfError, OfInvoke, OfResult, Reject, ResultLast, ResultNotLast, ReturnError}
use Rattle.machine.specs.Effect.{AreRising, any_failed, concluded, concluded_by, concludes, concluding, invocations_after, is_failure}
use Rattle.machine_laws.proofs.Folding.{after_append}
use Rattle.machine_laws.proofs.Rising.{int_is, IsMap, every_one, rising_map}
use Rattle.csl.specs.declared.ending.How.TheVariants.{Succeeds, Fails, IsRejected}
use Rattle.csl.specs.declared.ending.Ending.{Ending}
use Rattle.csl.specs.Endings.{has_id, ending, after_ending, is_failing}
use Rattle.csl.proofs.Places.{Parts, NoneHas, parts_of, none_of, get_at, set_at, remove_at}

-- an ending as a value of the definitions
record Ends {P : Type 0} (c : ComponentOf P) (e : Ending) : Type 0 where
  pub concludes_its : (j : ℤ) → concludes j c ≡ int_eq e.id j
  pub after : (now : ℕ) (v : Invocation) → concluded_by now v (Some c) ≡ after_ending now e.how v
  pub failed : is_failure (Some c) ≡ is_failing e.how

-- a list is written through a slice of it, which is as long
pub refilled : (vs : List Invocation) (place : ℕ) (u : Invocation) → refill (length vs) vs (set vs place u) ≡ set vs place u
refilled vs place u =
    let long = length-set vs place u in
    take-append-le (length vs) (set vs place u) (drop (length (set vs place u)) vs) (omega arith)
    ∙ take_all (length vs) (set vs place u) (omega arith)

-- an invocation that is answered now
abbrev pub waiting : ℕ → Invocation → Invocation
waiting now v = record { id = v.id; was = WaitForReject; deadline = now + REJECT_TIMER }

and_true : (b : Bool) → (b && true) ≡ b
and_true true = refl
and_true false = refl

module _ {P : Type 0} where
  no_ending : (c : ComponentOf P) → ending c ≡ None → (j : ℤ) → concludes j c ≡ false
  no_ending (Reject (Some id) General problem) e j = cc
  no_ending (Reject (Some id) OfInvoke problem) e j = cc
  no_ending (Reject (Some id) OfResult problem) e j = off (int_eq id j)
    where
      off : (b : Bool) → (b && false) ≡ false
      off true = refl
      off false = refl
  no_ending (Reject (Some id) OfError problem) e j = off (int_eq id j)
    where
      off : (b : Bool) → (b && false) ≡ false
      off true = refl
      off false = refl
  no_ending (Reject None side problem) e j = refl
  no_ending (ResultLast id) e j = cc
  no_ending (ReturnError id error) e j = cc
  no_ending (ResultNotLast id) e j = refl
  no_ending (Invoke id linked operation p) e j = refl
  no_ending (Bad id problem) e j = refl
  no_ending Ignored e j = refl

  ends_as : (c : ComponentOf P) (d e : Ending) → Ends c d → Some d ≡ Some e → Ends c e
  ends_as c d e is same = let s : d ≡ e = cc in subst (λ f. Ends c f) s is

  ends : (c : ComponentOf P) (e : Ending) → ending c ≡ Some e → Ends c e
  ends (ResultLast id) e is = ends_as _ _ e (record { concludes_its = λ j. refl; after = λ now v. refl; failed = refl }) is
  ends (ReturnError id error) e is = ends_as _ _ e (record { concludes_its = λ j. refl; after = λ now v. refl; failed = refl }) is
  ends (Reject (Some id) General problem) e is = ends_as _ _ e (record { concludes_its = λ j. and_true (int_eq id j); after = λ now v. refl; failed = refl }) is
  ends (Reject (Some id) OfInvoke problem) e is = ends_as _ _ e (record {
    concludes_its = λ j. and_true
        (int_eq id j);
    after = λ now v. refl;
    failed = refl;
  }) is
  ends (Reject (Some id) OfResult problem) e is = cc
  ends (Reject (Some id) OfError problem) e is = cc
  ends (Reject None side problem) e is = cc
  ends (ResultNotLast id) e is = cc
  ends (Invoke id linked operation p) e is = cc
  ends (Bad id problem) e is = cc
  ends Ignored e is = cc

  module _ (now : ℕ) (c : ComponentOf P) where
    Stays : Invocation → Type 0
    Stays u = concludes u.id c ≡ false

    stays_one : (v : Invocation) → concludes v.id c ≡ false → concluded now (c ∷ []) v ≡ v ∷ []
    stays_one v e = by (is_sent v.was)
      where
        by : (b : Bool) → cond b (concluded_by now v (cond (concludes v.id c) (Some c) None)) (v ∷ []) ≡ v ∷ []
        by true = ap (λ t. concluded_by now v (cond t (Some c) None)) e
        by false = refl

    fails_not : (v : Invocation) → concludes v.id c ≡ false → (is_sent v.was && is_failure (concluding v.id (c ∷ []))) ≡ false
    fails_not v e = by (is_sent v.was)
      where
        by : (b : Bool) → (b && is_failure (cond (concludes v.id c) (Some c) None)) ≡ false
        by true = ap (λ t. is_failure (cond t (Some c) None)) e
        by false = refl

    stay : (vs : List Invocation) → Every (λ (u : Invocation). concludes u.id c ≡ false) vs → invocations_after now (c ∷ []) vs ≡ vs
    stay [] h = refl
    stay (v ∷ vs) h = ap (λ us. us ++ invocations_after now (c ∷ []) vs) (stays_one v h.0) ∙ ap (λ us. v ∷ us) (stay vs h.1)

    fail_not : (vs ws : List Invocation) → Every (λ (u : Invocation). concludes u.id c ≡ false) vs → any_failed (c ∷ []) (vs ++ ws) ≡ any_failed (c ∷ []) ws
    fail_not [] ws h = refl
    fail_not (v ∷ vs) ws h = ap (λ b. cond b true (any_failed (c ∷ []) (vs ++ ws))) (fails_not v h.0) ∙ fail_not vs ws h.1

    -- nothing is concluded
    pub record Unmoved (vs : List Invocation) : Type 0 where
      pub after : vs ≡ invocations_after now (c ∷ []) vs
      pub failed : false ≡ any_failed (c ∷ []) vs

    unmoved : (vs : List Invocation) → Every (λ (u : Invocation). concludes u.id c ≡ false) vs → Unmoved vs
    unmoved vs h = record { after = sym (stay vs h); failed = sym (ap (any_failed (c ∷ [])) (sym (append-nil vs)) ∙ fail_not vs [] h) }

    every_vs : ((j : ℤ) → concludes j c ≡ false) → (vs : List Invocation) → Every (λ (u : Invocation). concludes u.id c ≡ false) vs
    every_vs none [] = tt
    every_vs none (v ∷ vs) = (none v.id, every_vs none vs)

    pub unmoved_by_none : (vs : List Invocation) → ending c ≡ None → Unmoved vs
    unmoved_by_none vs e = unmoved vs (every_vs (no_ending c e) vs)

    module _ (e : Ending) (is : ending c ≡ Some e) where
      not_its : (u : Invocation) → has_id e.id u ≡ false → concludes u.id c ≡ false
      not_its u q = (ends c e is).concludes_its u.id ∙ int_eq_equiv.symm e.id u.id ∙ q

      none_concluded : (vs : List Invocation) → NoneHas e.id vs → Every (λ (u : Invocation). concludes u.id c ≡ false) vs
      none_concluded vs h = every_one (λ u. has_id e.id u ≡ false) (λ u. concludes u.id c ≡ false) not_its vs h

      pub unmoved_where_absent : (vs : List Invocation) → position (has_id e.id) vs ≡ None → Unmoved vs
      unmoved_where_absent vs none = unmoved vs (none_concluded vs (none_of e.id vs none))

      -- there are others after the one with the id
      others_behind : (front : List Invocation) (own : Invocation) (back : List Invocation) → IsMap (front ++ own ∷ back) → has_id e.id own ≡ true
          → NoneHas e.id back
      others_behind [] own back m q = every_one (λ u. int_eq u.id own.id ≡ false) (λ u. has_id e.id u ≡ false)
          (λ u r. subst (λ i. int_eq u.id i ≡ false) (int_is own.id e.id q) r) back m.0
      others_behind (v ∷ front) own back m q = others_behind front own back m.1 q

      after_at : (front : List Invocation) (own : Invocation) (back : List Invocation) → NoneHas e.id front → NoneHas e.id back
          → invocations_after now (c ∷ []) (front ++ own ∷ back) ≡ front ++ (concluded now (c ∷ []) own ++ back)
      after_at front own back f b =
          after_append now (c ∷ []) front (own ∷ back) ∙ ap (λ us. us ++ (concluded now (c ∷ []) own ++ invocations_after now (c ∷ []) back))
          (stay front (none_concluded front f))
          ∙ ap (λ us. front ++ (concluded now (c ∷ []) own ++ us)) (stay back (none_concluded back b))

      failed_at : (front : List Invocation) (own : Invocation) (back : List Invocation) → NoneHas e.id front → NoneHas e.id back
          → any_failed (c ∷ []) (front ++ own ∷ back) ≡ (is_sent own.was && is_failure (concluding own.id (c ∷ [])))
      failed_at front own back f b =
          fail_not front (own ∷ back) (none_concluded front f)
          ∙ ap (λ r. cond (is_sent own.was && is_failure (concluding own.id (c ∷ []))) true r)
          (ap (any_failed (c ∷ [])) (sym (append-nil back)) ∙ fail_not back [] (none_concluded back b))
          ∙ off (is_sent own.was && is_failure (concluding own.id (c ∷ [])))
        where
          off : (t : Bool) → cond t true false ≡ t
          off true = refl
          off false = refl

      -- the one with the id
      module _ (vs : List Invocation) (place : ℕ) (found : position (has_id e.id) vs ≡ Some place) (rising : AreRising vs) (v : Invocation)
          (at : v ≡ get_or vs place v) where
        its : Parts e.id vs place
        its = parts_of e.id vs place found

        read_is : (w : Invocation) → w ≡ get_or vs place w → w ≡ its.own
        read_is w r = r ∙ ap (λ us. get_or us place w) its.whole ∙ ap (λ n. get_or (its.front ++ its.own ∷ its.back) n w) (sym its.at)
            ∙ get_at its.front its.own its.back w

        own_is : v ≡ its.own
        own_is = read_is v at

        behind : NoneHas e.id its.back
        behind = others_behind its.front its.own its.back (subst IsMap its.whole (rising_map vs rising)) its.same

        is_concluding : concluding its.own.id (c ∷ []) ≡ Some c
        is_concluding = ap (λ b. cond b (Some c) None) ((ends c e is).concludes_its its.own.id ∙ int_eq_equiv.symm e.id its.own.id ∙ its.same)

        pub unmoved_where_waiting : is_sent v.was ≡ false → Unmoved vs
        unmoved_where_waiting w =
            let own_waits : is_sent its.own.was ≡ false = sym (ap (λ (u : Invocation). is_sent u.was) own_is) ∙ w in
            record {
              after = sym (ap (invocations_after now (c ∷ [])) its.whole ∙ after_at its.front its.own its.back its.others behind
                  ∙ ap (λ us. its.front ++ (us ++ its.back))
                  (ap (λ b. cond b (concluded_by now its.own (concluding its.own.id (c ∷ []))) (its.own ∷ [])) own_waits) ∙ sym its.whole);
              failed = sym (ap (any_failed (c ∷ [])) its.whole ∙ failed_at its.front its.own its.back its.others behind
                  ∙ ap (λ b. b && is_failure (concluding its.own.id (c ∷ []))) own_waits);
            }

        after_sent : is_sent v.was ≡ true → its.front ++ (after_ending now e.how v ++ its.back) ≡ invocations_after now (c ∷ []) vs
        after_sent w =
            ap (λ us. its.front ++ (us ++ its.back)) (ap (after_ending now e.how) own_is ∙ sym ((ends c e is).after now its.own)
            ∙ ap (concluded_by now its.own) (sym is_concluding)
            ∙ sym (ap (λ b. cond b (concluded_by now its.own (concluding its.own.id (c ∷ []))) (its.own ∷ []))
            (sym (ap (λ (u : Invocation). is_sent u.was) own_is) ∙ w)))
            ∙ sym (ap (invocations_after now (c ∷ [])) its.whole ∙ after_at its.front its.own its.back its.others behind)

        pub removed : is_sent v.was ≡ true → e.how ≡ IsRejected → remove vs place ≡ invocations_after now (c ∷ []) vs
        removed w how =
            ap (λ us. remove us place) its.whole ∙ ap (remove (its.front ++ its.own ∷ its.back)) (sym its.at) ∙ remove_at its.front its.own its.back
            ∙ ap (λ h. its.front ++ (after_ending now h v ++ its.back)) (sym how) ∙ after_sent w

        waits_as : is_sent v.was ≡ true → (u : Invocation) → after_ending now e.how v ≡ u ∷ [] → set vs place u ≡ invocations_after now (c ∷ []) vs
        waits_as w u how =
            ap (λ us. set us place u) its.whole ∙ ap (λ n. set (its.front ++ its.own ∷ its.back) n u) (sym its.at) ∙ set_at its.front its.own its.back u
            ∙ ap (λ us. its.front ++ (us ++ its.back)) (sym how) ∙ after_sent w

        pub waits : is_sent v.was ≡ true → (w : Invocation) → w ≡ get_or vs place w → (u : Invocation)
            → u ≡ record { id = w.id; was = WaitForReject; deadline = now + REJECT_TIMER }
            → (e.how ≡ Fails) ⊎ (e.how ≡ Succeeds) → set vs place u ≡ invocations_after now (c ∷ []) vs
        waits sent w read u is_u how = waits_as sent u (ended_now how ∙ ap (λ (x : Invocation). x ∷ []) (same_wait (own_is ∙ sym (read_is w read)) ∙ sym is_u))
          where
            same_wait : v ≡ w → ◌≡◌ {A = Invocation} (record { id = v.id; was = WaitForReject; deadline = now + REJECT_TIMER })
                (record { id = w.id; was = WaitForReject; deadline = now + REJECT_TIMER })
            same_wait s = λ i. record { id = (s i).id; was = WaitForReject; deadline = now + REJECT_TIMER }

            ended_now : (e.how ≡ Fails) ⊎ (e.how ≡ Succeeds)
                → after_ending now e.how v ≡ record { id = v.id; was = WaitForReject; deadline = now + REJECT_TIMER } ∷ []
            ended_now (inl f) = ap (λ h. after_ending now h v) f
            ended_now (inr f) = ap (λ h. after_ending now h v) f

        pub failed_sent : is_sent v.was ≡ true → is_failing e.how ≡ any_failed (c ∷ []) vs
        failed_sent w =
            sym (ends c e is).failed ∙ ap is_failure (sym is_concluding)
            ∙ ap (λ b. b && is_failure (concluding its.own.id (c ∷ []))) (sym (sym (ap (λ (u : Invocation). is_sent u.was) own_is) ∙ w))
            ∙ sym (ap (any_failed (c ∷ [])) its.whole ∙ failed_at its.front its.own its.back its.others behind)
