-- Counting open dialogues: one less and one more.
use Rattle.std.proofs.Common.{◌≡◌, ◌≤◌, ◌<◌, ℕ, suc, List, [], ◌∷◌, Bool, true, false, cond, length, refl, sym, ◌∙◌, subst, inl, inr, arith, take, None}
use Rattle.machine.specs.Keys.{AreDifferent, Every, IsIn, IsNotIn, same, shard_of_id}
use Rattle.machine.specs.State.{IsFull, State}
use Rattle.machine_laws.proofs.Keys.{same_is, same_not}

-- without one id
pub less : List ℕ → List (List ℕ) → List (List ℕ)
less i [] = []
less i (j ∷ js) = cond (same i j) js (j ∷ less i js)

pub every_less : (i : List ℕ) (P : List ℕ → Type 0) (js : List (List ℕ)) → Every P js → Every P (less i js)
unfolding less
every_less i P [] h = tt
every_less i P (j ∷ js) h = go (same i j) (every_less i P js h.1)
  where
    go : (t : Bool) → Every P (less i js) → Every P (cond t js (j ∷ less i js))
    go true ih = h.1
    go false ih = (h.0, ih)

pub different_less : (i : List ℕ) (js : List (List ℕ)) → AreDifferent js → AreDifferent (less i js)
unfolding less
different_less i [] h = tt
different_less i (j ∷ js) h = go (same i j) (different_less i js h.1)
  where
    go : (t : Bool) → AreDifferent (less i js) → AreDifferent (cond t js (j ∷ less i js))
    go true ih = h.1
    go false ih = (every_less i (λ k. j ≡ k → ⊥) js h.0, ih)

pub length_less : (i : List ℕ) (js : List (List ℕ)) → length js ≤ suc (length (less i js))
unfolding less
length_less i [] = omega arith
length_less i (j ∷ js) = go (same i j) (length_less i js)
  where
    go : (t : Bool) → length js ≤ suc (length (less i js)) → suc (length js) ≤ suc (length (cond t js (j ∷ less i js)))
    go true ih = omega arith
    go false ih = omega arith

-- it is gone, if the ids differ
pub none_less : (i : List ℕ) (js : List (List ℕ)) → AreDifferent js → IsNotIn i (less i js)
unfolding less
none_less i [] h = tt
none_less i (j ∷ js) h = go (same i j) refl (none_less i js h.1)
  where
    go : (t : Bool) → same i j ≡ t → IsNotIn i (less i js) → IsNotIn i (cond t js (j ∷ less i js))
    go true e ih = subst (λ k. IsNotIn k js) (sym (same_is i j e)) h.0
    go false e ih = (same_not i j e, ih)

pub every_with : (P Q R : List ℕ → Type 0) → ((i : List ℕ) → P i → Q i → R i) → (js : List (List ℕ)) → Every P js → Every Q js → Every R js
every_with P Q R f [] h g = tt
every_with P Q R f (j ∷ js) h g = (f j h.0 g.0, every_with P Q R f js h.1 g.1)

pub every_to : (P R : List ℕ → Type 0) → ((i : List ℕ) → P i → R i) → (js : List (List ℕ)) → Every P js → Every R js
every_to P R f [] h = tt
every_to P R f (j ∷ js) h = (f j h.0, every_to P R f js h.1)

pub every_take : (n : ℕ) (P : List ℕ → Type 0) (js : List (List ℕ)) → Every P js → Every P (take n js)
every_take Rattle.std.proofs.Common.zero P js h = tt
every_take (suc n) P [] h = tt
every_take (suc n) P (j ∷ js) h = (h.0, every_take n P js h.1)

pub different_take : (n : ℕ) (js : List (List ℕ)) → AreDifferent js → AreDifferent (take n js)
different_take Rattle.std.proofs.Common.zero js h = tt
different_take (suc n) [] h = tt
different_take (suc n) (j ∷ js) h = (every_take n (λ k. j ≡ k → ⊥) js h.0, different_take n js h.1)

-- whether a shard is full, by a table of ids

in_less : (i k : List ℕ) (js : List (List ℕ)) → (i ≡ k → ⊥) → IsIn k js → IsIn k (less i js)
unfolding less
in_less i k [] ne h = absurd h
in_less i k (j ∷ js) ne (inl e) = go (same i j) refl
  where
    go : (t : Bool) → same i j ≡ t → IsIn k (cond t js (j ∷ less i js))
    go true q = absurd (ne (same_is i j q ∙ sym e))
    go false q = inl e
in_less i k (j ∷ js) ne (inr h) = go (same i j) (in_less i k js ne h)
  where
    go : (t : Bool) → IsIn k (less i js) → IsIn k (cond t js (j ∷ less i js))
    go true ih = h
    go false ih = inr ih

length_in : (i : List ℕ) (js : List (List ℕ)) → IsIn i js → suc (length (less i js)) ≤ length js
unfolding less
length_in i [] h = absurd h
length_in i (j ∷ js) (inl e) = go (same i j) refl
  where
    go : (t : Bool) → same i j ≡ t → suc (length (cond t js (j ∷ less i js))) ≤ suc (length js)
    go true q = omega arith
    go false q = absurd (same_not i j q e)
length_in i (j ∷ js) (inr h) = go (same i j) (length_in i js h)
  where
    go : (t : Bool) → suc (length (less i js)) ≤ length js → suc (length (cond t js (j ∷ less i js))) ≤ suc (length js)
    go true ih = omega arith
    go false ih = omega arith

every_in_less : (i : List ℕ) (js is : List (List ℕ)) → IsNotIn i is → Every (λ k. IsIn k js) is → Every (λ k. IsIn k (less i js)) is
every_in_less i js [] n h = tt
every_in_less i js (k ∷ is) n h = (in_less i k js n.0 h.0, every_in_less i js is n.1 h.1)

-- different ids that are all in a table are no more than the table has
pub no_more : (is js : List (List ℕ)) → AreDifferent is → Every (λ k. IsIn k js) is → length is ≤ length js
no_more [] js d h = omega arith
no_more (i ∷ is) js d h =
    let rest : length is ≤ length (less i js) = no_more is (less i js) d.1 (every_in_less i js is d.0 h.1) in
    let one : suc (length (less i js)) ≤ length js = length_in i js h.0 in
    omega arith

-- a shard whose table has each open id and fewer than 4,096 is not full
pub not_full : (S : State) (n : ℕ) (table : List (List ℕ)) → ((i : List ℕ) → shard_of_id i ≡ n → (S.dialogues i ≡ None → ⊥) → IsIn i table)
    → length table < 4096 → IsFull S n → ⊥
not_full S n table h small (is, o, len) =
    let most : length is ≤ length table = no_more is table o.different
    (every_to (λ i. (shard_of_id i ≡ n) × (S.dialogues i ≡ None → ⊥)) (λ i. IsIn i table) (λ i q. h i q.0 q.1) is o.open_ones) in
    omega arith
