-- Sums over the first numbers.
use Rattle.std.proofs.Common.{◌≡◌, ℕ, zero, suc, ◌+◌, ◌<◌, eqb, true, false, refl, sym, subst, arith}
use Rattle.std.proofs.lemmas.Bool.{eqb-true, eqb-false}

abbrev pub total : ℕ → (ℕ → ℕ) → ℕ
total zero f = 0
total (suc k) f = f k + total k f

pub total_same : (k : ℕ) (f g : ℕ → ℕ) → ((j : ℕ) → j < k → f j ≡ g j) → total k f ≡ total k g
total_same zero f g same = refl
total_same (suc k) f g same =
    let here = same k (omega arith) in
    let rest = total_same k f g (λ j low. same j (omega arith)) in omega arith

-- more at one place
pub total_more : (k n c : ℕ) (f g : ℕ → ℕ) → n < k → f n ≡ c + g n → ((j : ℕ) → (j ≡ n → ⊥) → f j ≡ g j) → total k f ≡ c + total k g
total_more zero n c f g low here others = absurd (omega arith)
total_more (suc k) n c f g low here others =
    elim (eqb k n) as (λ b. eqb k n ≡ b → f k + total k f ≡ c + (g k + total k g)) [
      | true ↦ λ e.
          let same : k ≡ n = eqb-true k n e in
          let now : f k ≡ c + g k = subst (λ j. f j ≡ c + g j) (sym same) here in
          let rest = total_same k f g (λ j below. others j (λ is. omega arith)) in omega arith
      | false ↦ λ e.
          let other = eqb-false k n e in
          let now : f k ≡ g k = others k other in
          let below : n < k = omega arith in
          let rest = total_more k n c f g below here others in omega arith
    ] refl

pub total_none : (k : ℕ) (f : ℕ → ℕ) → ((j : ℕ) → j < k → f j ≡ 0) → total k f ≡ 0
total_none zero f none = refl
total_none (suc k) f none =
    let here = none k (omega arith) in let rest = total_none k f (λ j low. none j (omega arith)) in omega arith

-- all of it at one place
pub total_one : (k n c : ℕ) (f : ℕ → ℕ) → n < k → f n ≡ c → ((j : ℕ) → (j ≡ n → ⊥) → f j ≡ 0) → total k f ≡ c
total_one k n c f low here others =
    let more = total_more k n c f (λ _. 0) low (let h = here in omega arith) others in
    let none = total_none k (λ _. 0) (λ j _. refl) in omega arith
