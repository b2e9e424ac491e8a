-- The least of what is due is not later than the rest.
use Rattle.std.proofs.Common.{◌≡◌, ◌<◌, ◌≤◌, ◌⊎◌, inl, inr, ℕ, ℤ, List, [], ◌∷◌, Bool, true, false, cond, Option, Some, None, refl, sym, ap, ◌∙◌, subst, nat_cmp, int_eq, is_gt, Ordering, Greater}
use Rattle.std.specs.Ordering.{ordering_then}
use Rattle.std.specs.Cmp.{nat_cmp_is}
use Rattle.std.proofs.lemmas.Bool.{both_ways, cases_lt}
use Rattle.machine.specs.Keys.{put}
use Rattle.machine.specs.State.{Dialogue, Invocation, State, Was}
use Rattle.machine.specs.Turns.{Expires, Expiry, IsDue, IsLeast, NoneDue, OneDue, invocation_of}
use Rattle.machine_laws.proofs.Keys.{none_some, put_cases, some_inj}
use Rattle.machine_laws.proofs.Rising.{int_is}

pub not_later : (t t' : ℕ) (r : Ordering) → is_gt (ordering_then (nat_cmp t t') r) ≡ false → t ≤ t'
not_later t t' r h = by (cases_lt t' t)
  where
    by : (t' < t) ⊎ (t ≤ t') → t ≤ t'
    by (inl later) = absurd (both_ways _ h (sym (ap (λ o. is_gt (ordering_then o r)) (nat_cmp_is t t' Greater later))))
    by (inr other) = other

-- a dialogue that has one invocation has no other
pub only_one : (d e : Dialogue) (v w : Invocation) (j : ℤ) → d ≡ e → d.invocations ≡ v ∷ [] → invocation_of j e.invocations ≡ Some w
    → (v ≡ w) × (v.id ≡ j)
only_one d e v w j q has stands = by (int_eq v.id j) refl (ap (λ vs. invocation_of j vs) (sym has ∙ ap (λ (f : Dialogue). f.invocations) q) ∙ stands)
  where
    by : (t : Bool) → int_eq v.id j ≡ t → cond t (Some v) None ≡ Some w → (v ≡ w) × (v.id ≡ j)
    by true same r = (some_inj v w _ refl r, int_is v.id j same)
    by false other r = absurd (none_some w None refl r)

-- What holds of the timers of two dialogues holds of all that is due, if no other dialogue is open.
pub of_both : (S : State) (n : ℕ) (i k : List ℕ) (d e : Dialogue) (v w : Invocation) (P : List ℕ → Dialogue → ℤ → Invocation → Type 0)
    → S.dialogues ≡ put (put (λ id. None) i (Some d)) k (Some e) → d.invocations ≡ v ∷ [] → e.invocations ≡ w ∷ [] → P i d v.id v → P k e w.id w
    → (i' : List ℕ) (d' : Dialogue) (j' : ℤ) (v' : Invocation) → IsDue S n i' d' j' v' → P i' d' j' v'
of_both S n i k d e v w P are of_d of_e first second i' d' j' v' due =
    put_cases (put (λ id. None) i (Some d)) k (Some e) i' (λ o. o ≡ Some d' → P i' d' j' v')
    (λ at q. is k e w of_e second at (some_inj e d' _ refl q))
    (λ _. put_cases (λ id. None) i (Some d) i' (λ o. o ≡ Some d' → P i' d' j' v') (λ at q. is i d v of_d first at (some_inj d d' _ refl q))
    (λ _ q. absurd (none_some d' None refl q)))
    (ap (λ (f : List ℕ → Option Dialogue). f i') (sym are) ∙ due.is_open)
  where
    is : (h : List ℕ) (f : Dialogue) (u : Invocation) → f.invocations ≡ u ∷ [] → P h f u.id u → h ≡ i' → f ≡ d' → P i' d' j' v'
    is h f u has holds at q = let same : (u ≡ v') × (u.id ≡ j') = only_one f d' u v' j' q has due.stands in
        subst (λ g. P i' g j' v') q (subst (λ g. P g f j' v') at (subst (λ m. P h f m v') same.1 (subst (λ m. P h f u.id m) same.0 holds)))

-- the invocation that an expiry takes is the least of what is due
pub least_taken : (S : State) (n : ℕ) (i : List ℕ) (d : Dialogue) (j : ℤ) (v : Invocation) (was : Was) → invocation_of j d.invocations ≡ Some v
    → Expiry S n (Expires i d j was) → IsLeast S n v.deadline i j
least_taken S n i d j v was stands (OneDue i' d' j' v' due least is) =
    let moved : invocation_of j' d'.invocations ≡ invocation_of j d.invocations = ap (λ (f : Dialogue). invocation_of j' f.invocations) (the_dialogue is)
    ∙ ap (λ m. invocation_of m d.invocations) (the_invoke is) in
    let same : v' ≡ v = some_inj v' v _ due.stands (moved ∙ stands) in
    subst (λ (u : Invocation). IsLeast S n u.deadline i j) same
    (subst (λ h. IsLeast S n v'.deadline h j) (the_id is) (subst (λ m. IsLeast S n v'.deadline i' m) (the_invoke is) least))
  where
    the_id : Expires i d j was ≡ Expires i' d' j' v'.was → i' ≡ i
    the_id e = cc

    the_dialogue : Expires i d j was ≡ Expires i' d' j' v'.was → d' ≡ d
    the_dialogue e = cc

    the_invoke : Expires i d j was ≡ Expires i' d' j' v'.was → j' ≡ j
    the_invoke e = cc
least_taken S n i d j v was stands (NoneDue none is) = absurd (cc is)
