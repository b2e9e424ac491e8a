-- Where the local ids of a start begin.
use Rattle.std.proofs.Common.{◌≡◌, ◌==◌, ℕ, ◌+◌, ◌*◌, ◌%◌, ◌<◌, Bool, true, false, cond, eqb-true, refl, sym, ap, ◌∙◌, arith}
use Rattle.std.proofs.lemmas.Nat.{mul-mod_first}
use Rattle.std.proofs.Math.Nat.{add-mul-mod_self_left, mod-lt}
use Rattle.tidalloc.specs.LiveIds.{next_generation}
use Rattle.hlrcore.specs.Ids.{first_generation}

-- 2,531 times 2,291 is 1 modulo 4,095, so a number is found again from the generation.
number_again : (n : ℕ) → first_generation n * 2291 % 4095 ≡ n % 4095
number_again n =
    mul-mod_first (n * 2531) 2291 4095 ∙ ap (λ k. k % 4095) spread ∙ add-mul-mod_self_left n 4095 (n * 1416)
  where
    spread : n * 2531 * 2291 ≡ n + 4095 * (n * 1416)
    spread = omega arith

plain : (g : ℕ) → g < 4095 → next_generation g ≡ g + 1
plain g low = facts (g == 4095) refl
  where
    facts : (b : Bool) → (g == 4095) ≡ b → cond b 1 (g + 1) ≡ g + 1
    facts true e = let last : g ≡ 4095 = eqb-true g 4095 e in absurd (omega (arith, last, low))
    facts false e = refl

-- the generation of the first use is told by the one before it
told : (g h : ℕ) → g < 4095 → h < 4095 → next_generation g ≡ next_generation h → g ≡ h
told g h low small same = let one_on : g + 1 ≡ h + 1 = sym (plain g low) ∙ same ∙ plain h small in omega (arith, one_on)

pub starts_apart : (one other : ℕ) → next_generation (first_generation one) ≡ next_generation (first_generation other) → one % 4095 ≡ other % 4095
starts_apart one other same =
    sym (number_again one)
    ∙ ap (λ g. g * 2291 % 4095) (told (first_generation one) (first_generation other) (mod-lt (one * 2531) some) (mod-lt (other * 2531) some) same)
    ∙ number_again other
  where
    some : 0 < 4095
    some = omega arith
