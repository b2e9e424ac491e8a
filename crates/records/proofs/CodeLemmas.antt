-- One more part of a list of codes.
use Rattle.std.proofs.Common.{◌≡◌, ℕ, true, false, List, ◌∷◌, [], ◌++◌, length, refl, sym, ◌∙◌}
use Rattle.std.specs.Prelude.{◌==◌, nat_lt, None, Some, Option}
use Rattle.std.specs.List.{list_any}
use Rattle.records.specs.Reading.{octet_in, codes_after}

-- a code that occurs twice
pub codes_after-repeated : (found : List ℕ) (part : List ℕ) (more : List (List ℕ)) (code : ℕ) (total : Option (List ℕ)) → octet_in part ≡ Some code
    → list_any (λ c. c == code) found ≡ true
    → codes_after found (part ∷ more) ≡ total → None ≡ total
unfolding codes_after
codes_after-repeated found part more code total is has so_far =
    let one : codes_after found (part ∷ more) ≡ None = rw (is, has) refl in
    sym one ∙ so_far

-- a code that is new
pub codes_after-next : (found : List ℕ) (part : List ℕ) (more : List (List ℕ)) (code : ℕ) (total : Option (List ℕ)) → octet_in part ≡ Some code
    → list_any (λ c. c == code) found ≡ false → nat_lt (length found) 32 ≡ true
    → codes_after found (part ∷ more) ≡ total → codes_after (found ++ code ∷ []) more ≡ total
unfolding codes_after
codes_after-next found part more code total is fresh room so_far =
    let one : codes_after found (part ∷ more) ≡ codes_after (found ++ code ∷ []) more = rw (is, fresh, room) refl in
    sym one ∙ so_far
