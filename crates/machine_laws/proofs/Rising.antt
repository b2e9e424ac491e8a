-- The invocations of a dialogue stay in rising order of their ids.
use Rattle.std.proofs.Common.{◌≡◌, ◌+◌, ◌<◌, ◌≤◌, ℕ, zero, suc, ℤ, pos, ◌<ℤ◌, List, [], ◌∷◌, ◌++◌, map, Bool, true, false, cond, refl, sym, ap, subst, Option, Some, None, arith, int_eq, int_cmp, is_eq, Ordering, Less, Equal, Greater}
use Rattle.std.specs.FinMap.{int_cmp-IsAntisymmetric}
use Rattle.std.specs.Int.Signed.{<ℤ_irrefl}
use Rattle.std.specs.Int.Signed.{lt_z_yes}
use Rattle.std.proofs.Math.Facts.{yes_ltb}
use Rattle.std.proofs.lemmas.Bool.{both_ways}
use Rattle.machine.specs.Effect.{AreRising, concluded, concluded_by, concluding, invocations_after}
use Rattle.machine.specs.Received.{Bad, ComponentOf, Ignored, Invoke, Reject, ResultLast, ResultNotLast, ReturnError}
use Rattle.machine.specs.Keys.{Every}
use Rattle.machine.specs.State.{Invocation, is_sent}
use Rattle.machine.specs.Outcome.{below, further, inserts_invoked, invoked}
use Rattle.machine.specs.Expiries.{without}

pub int_is : (x y : ℤ) → int_eq x y ≡ true → x ≡ y
int_is x y e = go (int_cmp x y) refl e
  where
    go : (o : Ordering) → int_cmp x y ≡ o → is_eq o ≡ true → x ≡ y
    go Equal q h = int_cmp-IsAntisymmetric x y q
    go Less q h = absurd (both_ways false refl h)
    go Greater q h = absurd (both_ways false refl h)

-- a lesser id is another one
pub less_differs : (x y : ℤ) → x <ℤ y → int_eq y x ≡ false
less_differs x y l = go (int_eq y x) refl
  where
    go : (b : Bool) → int_eq y x ≡ b → b ≡ false
    go true e = let P : ℤ → Type 0 = λ z. x <ℤ z in absurd (<ℤ_irrefl (subst P (int_is y x e) l))
    go false e = refl

-- each id occurs once
abbrev pub IsMap : List Invocation → Type 0
IsMap [] = Unit {0}
IsMap (v ∷ vs) = Every (λ (u : Invocation). int_eq u.id v.id ≡ false) vs × IsMap vs

pub every_one : (P Q : Invocation → Type 0) → ((u : Invocation) → P u → Q u) → (vs : List Invocation) → Every P vs → Every Q vs
every_one P Q f [] h = tt
every_one P Q f (v ∷ vs) h = (f v h.0, every_one P Q f vs h.1)

pub rising_map : (vs : List Invocation) → AreRising vs → IsMap vs
rising_map [] h = tt
rising_map (v ∷ vs) h = (every_one (λ u. v.id <ℤ u.id) (λ u. int_eq u.id v.id ≡ false) (λ u l. less_differs v.id u.id l) vs h.0, rising_map vs h.1)

pub every_join : (P : Invocation → Type 0) (us vs : List Invocation) → Every P us → Every P vs → Every P (us ++ vs)
every_join P [] vs h g = g
every_join P (u ∷ us) vs h g = (h.0, every_join P us vs h.1 g)

-- after components

module _ {P : Type 0} where
  pub concluded_as : (Q : List Invocation → Type 0) (now : ℕ) (cs : List (ComponentOf P)) (v : Invocation) → Q []
      → ((u : Invocation) → u.id ≡ v.id → Q (u ∷ [])) → Q (concluded now cs v)
  concluded_as Q now cs v none one = by (is_sent v.was)
    where
      ends : (o : Option (ComponentOf P)) → Q (concluded_by now v o)
      ends None = one v refl
      ends (Some (Reject id side problem)) = none
      ends (Some (ResultLast id)) = one _ refl
      ends (Some (ResultNotLast id)) = one _ refl
      ends (Some (ReturnError id error)) = one _ refl
      ends (Some (Invoke id linked operation p)) = one _ refl
      ends (Some (Bad id problem)) = one _ refl
      ends (Some Ignored) = one _ refl

      by : (b : Bool) → Q (cond b (concluded_by now v (concluding v.id cs)) (v ∷ []))
      by true = ends (concluding v.id cs)
      by false = one v refl

  pub every_concluded : (Q : ℤ → Type 0) (now : ℕ) (cs : List (ComponentOf P)) (v : Invocation) → Q v.id
      → Every (λ (u : Invocation). Q u.id) (concluded now cs v)
  every_concluded Q now cs v h = concluded_as (λ us. Every (λ (u : Invocation). Q u.id) us) now cs v tt (λ u e. (subst Q (sym e) h, tt))

  pub every_after : (Q : ℤ → Type 0) (now : ℕ) (cs : List (ComponentOf P)) (vs : List Invocation) → Every (λ (u : Invocation). Q u.id) vs
      → Every (λ (u : Invocation). Q u.id) (invocations_after now cs vs)
  every_after Q now cs [] h = tt
  every_after Q now cs (v ∷ vs) h = every_join _ (concluded now cs v) (invocations_after now cs vs) (every_concluded Q now cs v h.0)
      (every_after Q now cs vs h.1)

  pub rising_after : (now : ℕ) (cs : List (ComponentOf P)) (vs : List Invocation) → AreRising vs → AreRising (invocations_after now cs vs)
  rising_after now cs [] h = tt
  rising_after now cs (v ∷ vs) h =
      let rest : AreRising (invocations_after now cs vs) = rising_after now cs vs h.1 in
      concluded_as (λ us. AreRising (us ++ invocations_after now cs vs)) now cs v rest
      (λ u e. (every_after (λ i. u.id <ℤ i) now cs vs (subst (λ i. Every (λ (w : Invocation). i <ℤ w.id) vs) (sym e) h.0), rest))

-- without one
pub every_without : (Q : Invocation → Type 0) (j : ℤ) (vs : List Invocation) → Every Q vs → Every Q (without j vs)
every_without Q j [] h = tt
every_without Q j (v ∷ vs) h = by (int_eq v.id j) (every_without Q j vs h.1)
  where
    by : (b : Bool) → Every Q (without j vs) → Every Q (cond b vs (v ∷ without j vs))
    by true r = h.1
    by false r = (h.0, r)

pub rising_without : (j : ℤ) (vs : List Invocation) → AreRising vs → AreRising (without j vs)
rising_without j [] h = tt
rising_without j (v ∷ vs) h = by (int_eq v.id j) (rising_without j vs h.1)
  where
    by : (b : Bool) → AreRising (without j vs) → AreRising (cond b vs (v ∷ without j vs))
    by true r = h.1
    by false r = (every_without (λ u. v.id <ℤ u.id) j vs h.0, r)

-- the inserts
rising_push : (us : List Invocation) (v : Invocation) → AreRising us → Every (λ (u : Invocation). u.id <ℤ v.id) us → AreRising (us ++ v ∷ [])
rising_push [] v h g = (tt, tt)
rising_push (u ∷ us) v h g = (every_join _ us (v ∷ []) h.0 (g.0, tt), rising_push us v h.1 g.1)

map_push : (f : ℕ → Invocation) (ks : List ℕ) (k : ℕ) → map f (ks ++ k ∷ []) ≡ map f ks ++ f k ∷ []
map_push f [] k = refl
map_push f (j ∷ ks) k = ap (λ us. f j ∷ us) (map_push f ks k)

pos_less : (m n : ℕ) → m < n → pos m <ℤ pos n
pos_less m n h = lt_z_yes (yes_ltb h)

below_less : (now n k : ℕ) → n ≤ k → Every (λ (u : Invocation). u.id <ℤ pos (k + 2)) (map (λ k. invoked now (pos (k + 2))) (below n))
below_less now zero k h = tt
below_less now (suc n) k h =
    let Q : List Invocation → Type 0 = λ us. Every (λ (u : Invocation). u.id <ℤ pos (k + 2)) us in
    subst Q (sym (map_push (λ k. invoked now (pos (k + 2))) (below n) n))
    (every_join _ _ (invoked now (pos (n + 2)) ∷ []) (below_less now n k (omega arith)) (pos_less (n + 2) (k + 2) (omega arith), tt))

below_more : (now n : ℕ) → Every (λ (u : Invocation). pos 1 <ℤ u.id) (map (λ k. invoked now (pos (k + 2))) (below n))
below_more now zero = tt
below_more now (suc n) =
    let Q : List Invocation → Type 0 = λ us. Every (λ (u : Invocation). pos 1 <ℤ u.id) us in
    subst Q (sym (map_push (λ k. invoked now (pos (k + 2))) (below n) n))
    (every_join _ _ (invoked now (pos (n + 2)) ∷ []) (below_more now n) (pos_less 1 (n + 2) (omega arith), tt))

rising_below : (now n : ℕ) → AreRising (map (λ k. invoked now (pos (k + 2))) (below n))
rising_below now zero = tt
rising_below now (suc n) =
    let Q : List Invocation → Type 0 = λ us. AreRising us in
    subst Q (sym (map_push (λ k. invoked now (pos (k + 2))) (below n) n))
    (rising_push _ (invoked now (pos (n + 2))) (rising_below now n) (below_less now n n (omega arith)))

pub rising_inserts : (now : ℕ) (codes : List ℕ) → AreRising (inserts_invoked now codes)
rising_inserts now codes = (below_more now (further codes), rising_below now (further codes))
