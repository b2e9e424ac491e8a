-- A file that is read up to a limit.
use Rattle.std.proofs.Common.{◌≡◌, ◌<◌, ℕ, List, [], ◌++◌, length, ap, subst, ◌∙◌, arith}
use Rattle.std.specs.Prelude.{IfSome, take, min, Option, Some, None, option_map}
use Rattle.std.proofs.lemmas.List.{length-take, take_all}

-- a prefix with fewer elements than the limit is the whole
pub few_are_all : (limit : ℕ) (all text : List ℕ) → text ≡ take limit all → length text < limit → text ≡ all
few_are_all limit all text e few =
    let size : length text ≡ min limit (length all) = ap length e ∙ length-take limit all in
    e ∙ take_all limit all (omega (arith, size, few))

pub read_whole : (remaining : Option (List ℕ)) (limit : ℕ) (text : List ℕ)
    → IfSome (option_map (take limit) remaining) (λ xs. text ≡ xs) → length text < limit → IfSome remaining (λ all. text ≡ all)
read_whole None limit text is few = is
read_whole (Some all) limit text is few = few_are_all limit all text is few

-- the same for a reader that returns at most that many octets
pub read_up_to : (remaining given : Option (List ℕ)) (limit most : ℕ) (old text : List ℕ)
    → IfSome (option_map (take limit) remaining) (λ xs. text ≡ old ++ xs) → remaining ≡ given → limit ≡ most → old ≡ [] → length text < most
    → IfSome given (λ all. text ≡ all)
read_up_to remaining given limit most old text is same_reader same_limit none few =
    let from_none : IfSome (option_map (take limit) remaining) (λ xs. text ≡ xs)
    = subst (λ (it : List ℕ). IfSome (option_map (take limit) remaining) (λ xs. text ≡ it ++ xs)) none is in
    let limited : IfSome (option_map (take most) remaining) (λ xs. text ≡ xs)
    = subst (λ (it : ℕ). IfSome (option_map (take it) remaining) (λ xs. text ≡ xs)) same_limit from_none in
    read_whole given most text (subst (λ (it : Option (List ℕ)). IfSome (option_map (take most) it) (λ xs. text ≡ xs)) same_reader limited) few
