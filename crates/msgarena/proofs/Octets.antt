-- The verdict on octets that spell a tree.
use Rattle.std.proofs.Common.{ℕ, suc, ◌<◌, ◌≤◌, List, [], ◌∷◌, length, get_or, Fits, w8, refl, inl, inr, arith}
use Rattle.machine.specs.Octets.{AreOctets}
use Rattle.machine.specs.Received.{Discard}
use Rattle.x690.specs.Tree.{Tree, levels}
use Rattle.x690.specs.Spelling.{Spells}
use Rattle.x690.proofs.Spellings.{Spells-no_end}
use Rattle.x690.specs.declared.limits.TheConstants.{MAX_OCTETS, MAX_LEVELS}
use Rattle.frames.specs.Verdicts.{verdict_of}
use Rattle.frames.specs.Frames.{IsVerdict}
use Rattle.frames.proofs.JudgingLaws.{judged}

-- ---- octets

fits_octet : (n : ℕ) → Fits w8 n → n < 256
fits_octet n h = omega arith

pub are_octets : (xs : List ℕ) → ((i : ℕ) → Fits w8 (get_or xs i 0)) → AreOctets xs
are_octets [] h = tt
are_octets (x ∷ xs) h = (fits_octet x (h 0), are_octets xs (λ i. h (suc i)))

pub tree_judged : (octets : List ℕ) (t : Tree) → AreOctets octets → Spells octets t → length octets ≤ MAX_OCTETS → levels t ≤ MAX_LEVELS
    → IsVerdict octets (verdict_of t)
tree_judged octets t are spelled short shallow = inr (t, record { are = are; spelled = spelled; short = short; shallow = shallow }, judged t)

-- No octets spell no tree, so they are discarded.
pub none_judged : IsVerdict [] Discard
none_judged = inl ((λ t frame. Spells-no_end t [] [] [] frame.spelled refl tt), refl)
