-- What a name says, by its seven octets.
use Rattle.std.proofs.Common.{◌≡◌, ℕ, ◌<◌, ◌≤◌, ◌&&◌, true, List, [], ◌∷◌, length, arith, get_or}
use Rattle.std.specs.Prelude.{◌≢◌, ◌==◌, Bool, cond, bytes_eq}
use Rattle.std.proofs.lemmas.Bool.Decides.{nat_tests}
use Rattle.machine.specs.Contexts.{context_of, Unknown}
use Rattle.mapctx.specs.Seen.{by_octets, with_octet}

pub context_of-seven : (a b c d e octet version : ℕ) → context_of (a ∷ b ∷ c ∷ d ∷ e ∷ octet ∷ version ∷ [])
    ≡ cond (bytes_eq (a ∷ b ∷ c ∷ d ∷ e ∷ []) (4 ∷ 0 ∷ 0 ∷ 1 ∷ 0 ∷ [])) (by_octets (with_octet octet) version) Unknown
unfolding context_of
context_of-seven a b c d e octet version = grind (arith, nat_tests)

pub context_of-other : (name : List ℕ) → length name ≢ 7 → context_of name ≡ Unknown
unfolding context_of
context_of-other [] h = grind (arith, nat_tests)
context_of-other (a ∷ []) h = grind (arith, nat_tests)
context_of-other (a ∷ b ∷ []) h = grind (arith, nat_tests)
context_of-other (a ∷ b ∷ c ∷ []) h = grind (arith, nat_tests)
context_of-other (a ∷ b ∷ c ∷ d ∷ []) h = grind (arith, nat_tests)
context_of-other (a ∷ b ∷ c ∷ d ∷ e ∷ []) h = grind (arith, nat_tests)
context_of-other (a ∷ b ∷ c ∷ d ∷ e ∷ f ∷ []) h = grind (arith, nat_tests)
context_of-other (a ∷ b ∷ c ∷ d ∷ e ∷ f ∷ g ∷ []) h = absurd (h (omega arith))
context_of-other (a ∷ b ∷ c ∷ d ∷ e ∷ f ∷ g ∷ i ∷ rest) h = grind (arith, nat_tests)

-- whether the name begins as those of MAP do
abbrev pub is_family : List ℕ → Bool
is_family name =
    (get_or name 0 0 == 4) && ((get_or name 1 0 == 0) && ((get_or name 2 0 == 0) && ((get_or name 3 0 == 1) && ((get_or name 4 0 == 0) && true))))

-- the same by the places of a name of seven octets
pub context_of-by_index : (name : List ℕ) → 7 ≤ length name → length name < 8
    → context_of name ≡ cond (is_family name) (by_octets (with_octet (get_or name 5 0)) (get_or name 6 0)) Unknown
context_of-by_index (a ∷ b ∷ c ∷ d ∷ e ∷ f ∷ g ∷ []) h k = context_of-seven a b c d e f g
context_of-by_index [] h k = absurd (omega arith)
context_of-by_index (a ∷ []) h k = absurd (omega arith)
context_of-by_index (a ∷ b ∷ []) h k = absurd (omega arith)
context_of-by_index (a ∷ b ∷ c ∷ []) h k = absurd (omega arith)
context_of-by_index (a ∷ b ∷ c ∷ d ∷ []) h k = absurd (omega arith)
context_of-by_index (a ∷ b ∷ c ∷ d ∷ e ∷ []) h k = absurd (omega arith)
context_of-by_index (a ∷ b ∷ c ∷ d ∷ e ∷ f ∷ []) h k = absurd (omega arith)
context_of-by_index (a ∷ b ∷ c ∷ d ∷ e ∷ f ∷ g ∷ i ∷ rest) h k = absurd (omega arith)

pub ruleset names = (context_of-other)
