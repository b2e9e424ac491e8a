-- Where a text is cut.
use Rattle.std.proofs.Common.{◌≡◌, ℕ, zero, suc, ◌+◌, ◌<◌, List, [], ◌∷◌, length, get_or, take, drop, refl, ap, ◌∙◌, arith, add-one}
use Rattle.std.specs.Prelude.{◌==◌}
use Rattle.std.specs.List.{onto_first, count_by}
use Rattle.std.proofs.lemmas.Bool.{eq-eqb, eqb-true, ne_eqb}
use Rattle.memchr.specs.Find.{IsFirstByte, is_byte}
use Rattle.std.proofs.lemmas.List.Splits.{slice_split-cons_yes, slice_split-cons_no, length-slice_split}
use Rattle.std.specs.Prelude.{None, Some}
use Rattle.texts.specs.Lines.{parts}

at_first : (at : ℕ) (text : List ℕ) (i : ℕ) → i < length text → ((k : ℕ) → k < i → get_or text k 0 ≡ at → ⊥) → get_or text i 0 ≡ at
    → parts at text ≡ take i text ∷ parts at (drop (suc i) text)
at_first at [] i lt before here = absurd (omega arith)
at_first at (x ∷ xs) zero lt before here = slice_split-cons_yes (λ b. b == at) x xs (eq-eqb x at here)
at_first at (x ∷ xs) (suc i) lt before here =
    let rest = at_first at xs i (omega arith) (λ k l. before (suc k) (omega arith)) here in
    slice_split-cons_no (λ b. b == at) x xs (ne_eqb x at (before 0 (omega arith))) ∙ ap (onto_first x) rest

-- up to the first separator, and after it
pub parts_at : (at : ℕ) (text : List ℕ) (i : ℕ) → i < length text → ((k : ℕ) → k < i → get_or text k 0 ≡ at → ⊥) → get_or text i 0 ≡ at
    → parts at text ≡ take i text ∷ parts at (drop (i + 1) text)
parts_at at text i lt before here = rw add-one (at_first at text i lt before here)

-- a text with no separator is its one part
pub parts_none : (at : ℕ) (text : List ℕ) → ((k : ℕ) → k < length text → get_or text k 0 ≡ at → ⊥) → parts at text ≡ text ∷ []
parts_none at [] none = refl
parts_none at (x ∷ xs) none =
    slice_split-cons_no (λ b. b == at) x xs (ne_eqb x at (none 0 (omega arith))) ∙ ap (onto_first x) (parts_none at xs (λ k l. none (suc k) (omega arith)))

-- the same for the first place that a search finds
pub parts_found : (at : ℕ) (text : List ℕ) (i : ℕ) → IsFirstByte (is_byte at) text (Some i) → parts at text ≡ take i text ∷ parts at (drop (i + 1) text)
parts_found at text i (none, here) =
    parts_at at text i none.high (λ k l e. none.before k (omega arith) l (eq-eqb (get_or text k 0) at e)) (eqb-true (get_or text i 0) at here)

pub parts_missing : (at : ℕ) (text : List ℕ) → IsFirstByte (is_byte at) text None → parts at text ≡ text ∷ []
parts_missing at text none = parts_none at text (λ k l e. none k (omega arith) l (eq-eqb (get_or text k 0) at e))

-- there is always a part
pub parts_cons : (at : ℕ) (text : List ℕ) → (x : List ℕ) × (xs : List (List ℕ)) × (parts at text ≡ x ∷ xs)
parts_cons at text =
    let long = length-slice_split (λ b. b == at) text in
    elim (parts at text) as (λ ps. length ps ≡ count_by (λ b. b == at) text + 1 → (x : List ℕ) × (xs : List (List ℕ)) × (ps ≡ x ∷ xs)) [
      | [] ↦ λ e. absurd (omega arith)
      | x ∷ xs ↦ λ e. (x, xs, refl)
    ] long
