-- No length is a prefix of another, and none begins as the indefinite form does.
use Rattle.std.proofs.Common.{◌≡◌, ℕ, ◌^◌, ◌<◌, ◌≤◌, inl, inr, List, [], ◌∷◌, ◌++◌, length, refl, ap, arith, length-append}
use Rattle.std.proofs.lemmas.Bool.Decides.{nat_tests}
use Rattle.std.specs.List.{AllByRecursion}
use Rattle.x690.specs.Length.{IsLength, length_octets}

-- two lists of one length at the front of equal lists
pub append-inj : (a b x y : List ℕ) → length a ≡ length b → a ++ x ≡ b ++ y → (a ≡ b) × (x ≡ y)
append-inj [] [] x y h e = (refl, e)
append-inj [] (b ∷ more_b) x y h e = absurd (omega arith)
append-inj (a ∷ more_a) [] x y h e = absurd (omega arith)
append-inj (a ∷ more_a) (b ∷ more_b) x y h e =
    let p : more_a ++ x ≡ more_b ++ y = cc in
    let q : length more_a ≡ length more_b = omega arith in
    let r = append-inj more_a more_b x y q p in
    let r0 = r.0 in let r1 = r.1 in
    (cc, r1)

pub IsLength-inj : (a b x y : List ℕ) (n m : ℕ) → IsLength a n → IsLength b m → a ++ x ≡ b ++ y → (n ≡ m) × (x ≡ y)
IsLength-inj [] b x y n m p q e = absurd p
IsLength-inj (a ∷ more_a) [] x y n m p q e = absurd q
IsLength-inj (a ∷ more_a) (b ∷ more_b) x y n m (inl p) (inl q) e = let p1 = p.1 in let q1 = q.1 in let p2 = p.2 in let q2 = q.2 in (cc, cc)
IsLength-inj (a ∷ more_a) (b ∷ more_b) x y n m (inl p) (inr q) e = let f : a ≡ b = cc in absurd (omega arith)
IsLength-inj (a ∷ more_a) (b ∷ more_b) x y n m (inr p) (inl q) e = let f : a ≡ b = cc in absurd (omega arith)
IsLength-inj (a ∷ more_a) (b ∷ more_b) x y n m (inr p) (inr q) e =
    let f : a ≡ b = cc in
    let t : more_a ++ x ≡ more_b ++ y = cc in
    let l : length more_a ≡ length more_b = omega arith in
    let r = append-inj more_a more_b x y l t in
    let p3 = p.3 in let q3 = q.3 in let r0 = r.0 in
    (cc, r.1)

-- the indefinite form's octet begins no length
pub IsLength-not-128 : (a x y : List ℕ) (n : ℕ) → IsLength a n → a ++ x ≡ 128 ∷ y → ⊥
IsLength-not-128 [] x y n p e = p
IsLength-not-128 (a ∷ more_a) x y n (inl p) e = let f : a ≡ 128 = cc in omega arith
IsLength-not-128 (a ∷ more_a) x y n (inr p) e = let f : a ≡ 128 = cc in omega arith

pub IsLength-length_octets : (n : ℕ) → n < 2 ^ 32 → IsLength (length_octets n) n
unfolding length_octets
IsLength-length_octets n h = grind (arith, nat_tests)

pub append-cancel : (a b x : List ℕ) → a ++ x ≡ b ++ x → a ≡ b
append-cancel a b x e =
    let l = length-append a x in
    let m = length-append b x in
    let n = ap length e in
    (append-inj a b x x (omega arith) e).0

pub IsLength-length : (a : List ℕ) (n : ℕ) → IsLength a n → 1 ≤ length a
IsLength-length [] n p = absurd p
IsLength-length (a ∷ more_a) n p = omega arith

-- no length of octets is shorter
pub length_octets-least : (size : List ℕ) (n : ℕ) → AllByRecursion (λ octet. octet < 256) size → IsLength size n → length (length_octets n) ≤ length size
unfolding length_octets
length_octets-least [] n h p = absurd p
length_octets-least (first ∷ []) n h p = grind (arith, nat_tests)
length_octets-least (first ∷ a ∷ []) n h p = grind (arith, nat_tests)
length_octets-least (first ∷ a ∷ b ∷ []) n h p = grind (arith, nat_tests)
length_octets-least (first ∷ a ∷ b ∷ c ∷ []) n h p = grind (arith, nat_tests)
length_octets-least (first ∷ a ∷ b ∷ c ∷ d ∷ []) n h p = grind (arith, nat_tests)
length_octets-least (first ∷ a ∷ b ∷ c ∷ d ∷ e ∷ rest) n h (inl p) = let q = p.1 in cc
length_octets-least (first ∷ a ∷ b ∷ c ∷ d ∷ e ∷ rest) n h (inr p) = absurd (omega arith)

pub length_octets-bound : (n : ℕ) → length (length_octets n) ≤ 5
unfolding length_octets
length_octets-bound n = grind (arith, nat_tests)
