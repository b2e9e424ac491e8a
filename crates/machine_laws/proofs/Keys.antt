-- Equality of texts, and maps by them.
use Rattle.std.proofs.Common.{◌≡◌, ℕ, List, [], ◌∷◌, Bool, true, false, cond, eqb-true, eq-eqb, refl, sym, ap, ◌∙◌, subst, ◌⊎◌, inl, inr, Option, Some, None, IsTrue, is_some}
use Rattle.std.proofs.Math.Path.{fun_ext}
use Rattle.std.proofs.lemmas.Bool.{and_parts, and_from, both_ways}
use Rattle.machine.specs.Keys.{put, same}

pub same_is : (a b : List ℕ) → same a b ≡ true → a ≡ b
same_is [] [] e = refl
same_is [] (y ∷ ys) e = cc
same_is (x ∷ xs) [] e = cc
same_is (x ∷ xs) (y ∷ ys) e = let h = and_parts _ _ e in ap (λ (z : ℕ). z ∷ xs) (eqb-true x y h.0) ∙ ap (λ (zs : List ℕ). y ∷ zs) (same_is xs ys h.1)

pub same_refl : (a : List ℕ) → same a a ≡ true
same_refl [] = refl
same_refl (x ∷ xs) = and_from _ _ (eq-eqb x x refl) (same_refl xs)

pub is_same : (a b : List ℕ) → a ≡ b → same a b ≡ true
is_same a b e = subst (λ (c : List ℕ). same a c ≡ true) e (same_refl a)

pub not_same : (a b : List ℕ) → (a ≡ b → ⊥) → same a b ≡ false
not_same a b h = go (same a b) refl
  where
    go : (t : Bool) → same a b ≡ t → t ≡ false
    go true e = absurd (h (same_is a b e))
    go false e = refl

pub same_not : (a b : List ℕ) → same a b ≡ false → a ≡ b → ⊥
same_not a b e h = both_ways _ e (is_same a b h)

pub same_sym : (a b : List ℕ) (t : Bool) → same a b ≡ t → same b a ≡ t
same_sym a b true e = is_same b a (sym (same_is a b e))
same_sym a b false e = not_same b a (λ h. same_not a b e (sym h))

pub cases_same : (a b : List ℕ) → (a ≡ b) ⊎ (a ≡ b → ⊥)
cases_same a b = go (same a b) refl
  where
    go : (t : Bool) → same a b ≡ t → (a ≡ b) ⊎ (a ≡ b → ⊥)
    go true e = inl (same_is a b e)
    go false e = inr (same_not a b e)

module _ {X : Type 0} where
  pub put-same : (m : List ℕ → X) (k : List ℕ) (v : X) → put m k v k ≡ v
  unfolding put
  put-same m k v = rw (same_refl k)

  pub put-other : (m : List ℕ → X) (k : List ℕ) (v : X) (q : List ℕ) → (k ≡ q → ⊥) → put m k v q ≡ m q
  unfolding put
  put-other m k v q h = rw (not_same k q h)

  pub put-at : (m : List ℕ → X) (k : List ℕ) (v : X) (q : List ℕ) → k ≡ q → put m k v q ≡ v
  unfolding put
  put-at m k v q h = rw (is_same k q h)

  -- two ways that a change at a key may look at another key
  pub put_cases : (m : List ℕ → X) (k : List ℕ) (v : X) (q : List ℕ) (P : X → Type 0) → (k ≡ q → P v) → ((k ≡ q → ⊥) → P (m q)) → P (put m k v q)
  unfolding put
  put_cases m k v q P here there = go (same k q) refl
    where
      go : (t : Bool) → same k q ≡ t → P (cond t v (m q))
      go true e = here (same_is k q e)
      go false e = there (same_not k q e)

  pub put_again : (m : List ℕ → X) (k : List ℕ) → put m k (m k) ≡ m
  put_again m k = fun_ext (λ q. put_cases m k (m k) q (λ v. v ≡ m q) (λ e. ap m e) (λ h. refl))

pub none_some : {X : Type 0} (x : X) (o : Option X) → o ≡ None → o ≡ Some x → ⊥
none_some x o e f = cc

pub some_inj : {X : Type 0} (x y : X) (o : Option X) → o ≡ Some x → o ≡ Some y → x ≡ y
some_inj x y o e f = cc

pub is_Some : {X : Type 0} (o : Option X) → IsTrue (is_some o) → (x : X) × (o ≡ Some x)
is_Some None h = absurd (both_ways false refl h)
is_Some (Some x) h = (x, refl)
