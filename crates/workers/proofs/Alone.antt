-- One worker alone.
use Rattle.std.proofs.Common.{◌≡◌, ℕ, ◌+◌, ◌<◌, ◌++◌, List, [], ◌∷◌, length, get_or, map, take, Result, Ok, Err, append_assoc, ap, sym, subst, ◌∙◌}
use Rattle.std.specs.Prelude.{IfOk}
use Rattle.std.specs.List.Sorted.{IsPermutation}
use Rattle.std.proofs.lemmas.List.{map-append, take_more}
use Rattle.std.proofs.lemmas.List.Sorted.{IsPermutation-refl}
use Rattle.frames.specs.Account.{Job}

-- receipts in the order of the jobs are one for each
pub moved_alone : {V E : Type 0} (numbers : List ℕ) (answered : V → List ℕ) (found : Result V E) → IfOk found (λ v. answered v ≡ numbers)
    → IfOk found (λ v. IsPermutation numbers (answered v))
moved_alone numbers answered (Ok v) same = subst (IsPermutation numbers) (sym same) (IsPermutation-refl numbers)
moved_alone numbers answered (Err e) same = tt

-- one receipt more
pub receipt_more : (jobs : List Job) (i : ℕ) (d : Job) (number : ℕ) (first before after : List ℕ) → i < length jobs → number ≡ (get_or jobs i d).number
    → before ≡ first ++ map (λ j. j.number) (take i jobs) → after ≡ before ++ number ∷ [] → after ≡ first ++ map (λ j. j.number) (take (i + 1) jobs)
receipt_more jobs i d number first before after lt is so_far more =
    more ∙ ap (λ (l : List ℕ). l ++ number ∷ []) so_far ∙ append_assoc first (map (λ j. j.number) (take i jobs)) (number ∷ [])
    ∙ ap (λ (l : List ℕ). first ++ l) (ap (λ (n : ℕ). map (λ j. j.number) (take i jobs) ++ n ∷ []) is
    ∙ sym (map-append (λ (j : Job). j.number) (take i jobs) (get_or jobs i d ∷ [])) ∙ ap (map (λ (j : Job). j.number)) (sym (take_more jobs i d lt)))
