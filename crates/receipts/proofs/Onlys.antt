-- The only element of a list that passes a test.
use Rattle.std.proofs.Common.{◌≡◌, ℕ, ◌+◌, ◌<◌, ◌≤◌, cond, Bool, true, List, [], ◌∷◌, length, take, drop, get_or, filter, sym, refl, ap, ◌∙◌, arith, length-append, Option, Some, None, Bor, is_some}
use Rattle.std.specs.Option.{option_copied, option_to_list}
use Rattle.std.proofs.lemmas.List.{take-append-drop}
use Rattle.std.proofs.lemmas.List.Elements.{filter-append}
use Rattle.std.proofs.lemmas.List.Filters.{length-filter_more}
use Rattle.receipts.specs.Only.{only}

two_or_more : {X : Type 0} (xs : List X) → 2 ≤ length xs → None ≡ only xs
two_or_more [] many = absurd (omega arith)
two_or_more (x ∷ []) many = absurd (omega arith)
two_or_more (x ∷ y ∷ xs) many = refl

length-copied : {X : Type 0} (o : Option (Bor X)) → is_some o ≡ true → length (option_to_list (option_copied o)) ≡ 1
length-copied None some = absurd (cc)
length-copied (Some x) some = refl

-- one was found before, and this is another
pub not_only : {X : Type 0} (p : X → Bool) (xs : List X) (i : ℕ) (x : X) (found : Option (Bor X)) → i < length xs → x ≡ get_or xs i x → p x ≡ true
    → is_some found ≡ true → filter p (take i xs) ≡ option_to_list (option_copied found) → None ≡ only (filter p xs)
not_only {X = X} p xs i x found low at passes some before =
    let a = length-filter_more p xs i x low in
    let b = ap length before ∙ length-copied found some in
    let one : Bool → ℕ = λ t. cond t 1 0 in
    let c : one (p (get_or xs i x)) ≡ 1 = ap (λ (y : X). one (p y)) (sym at) ∙ ap one passes in
    let whole = ap (filter p) (sym (take-append-drop (i + 1) xs)) ∙ filter-append p (take (i + 1) xs) (drop (i + 1) xs) in
    let d = ap length whole in let e = length-append (filter p (take (i + 1) xs)) (filter p (drop (i + 1) xs)) in
    two_or_more (filter p xs) (omega arith)

pub only_is : {X : Type 0} (xs : List X) (x : X) → Some x ≡ only xs → xs ≡ x ∷ []
only_is [] x is = absurd (cc)
only_is (y ∷ []) x is = cc
only_is (y ∷ z ∷ xs) x is = absurd (cc)
