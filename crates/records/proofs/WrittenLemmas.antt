-- Lists as they are written, item by item.
use Rattle.std.proofs.Common.{◌≡◌, ℕ, List, [], ◌∷◌, ◌++◌, map, refl, sym, ap, ◌∙◌, append_assoc}
use Rattle.std.specs.Prelude.{Some}
use Rattle.std.specs.List.{flat_map, join_with_byte}
use Rattle.std.proofs.lemmas.List.{append-nil}
use Rattle.hex.specs.Hex.{encode_upper, encode_with}
use Rattle.hlr_types.specs.DigitTexts.{text_of}
use Rattle.records.specs.Written.{code_text, codes_text, roam_text, following_codes, following_prefixes}

listed : {X : Type 0} (f : X → List ℕ) (x : X) (xs : List X) → join_with_byte 44 (map f (x ∷ xs)) ≡ f x ++ flat_map (λ y. 44 ∷ f y) xs
listed f x [] = sym (append-nil (f x))
listed f x (y ∷ ys) = ap (λ t. f x ++ 44 ∷ t) (listed f y ys)

pub codes_listed : (code : ℕ) (more : List ℕ) → codes_text (code ∷ more) ≡ code_text code ++ following_codes more
codes_listed code more = listed code_text code more

pub prefixes_listed : (prefix : List ℕ) (more : List (List ℕ)) → roam_text (Some (prefix ∷ more)) ≡ text_of prefix ++ following_prefixes more
prefixes_listed prefix more = listed text_of prefix more

-- two digits for each octet
pub octets_listed : (octets : List ℕ) → flat_map code_text octets ≡ encode_upper octets
unfolding encode_with
octets_listed [] = refl
octets_listed (o ∷ os) = ap (λ (t : List ℕ). code_text o ++ t) (octets_listed os)

-- ---- what is pushed piece by piece

joined_two : (x a b y : List ℕ) → (x ++ (a ++ 32 ∷ b)) ++ 32 ∷ y ≡ x ++ (a ++ 32 ∷ (b ++ 32 ∷ y))
joined_two x a b y = append_assoc x (a ++ 32 ∷ b) (32 ∷ y) ∙ ap (λ (t : List ℕ). x ++ t) (append_assoc a (32 ∷ b) (32 ∷ y))

pub five_pieces : (old a b c d e o1 o2 o3 o4 o5 : List ℕ) → o1 ≡ old ++ (a ++ 32 ∷ b) → o2 ≡ o1 ++ 32 ∷ [] → o3 ≡ o2 ++ (c ++ 32 ∷ d) → o4 ≡ o3 ++ 32 ∷ []
    → o5 ≡ o4 ++ e
    → o5 ≡ old ++ join_with_byte 32 (a ∷ b ∷ c ∷ d ∷ e ∷ [])
five_pieces old a b c d e o1 o2 o3 o4 o5 e1 e2 e3 e4 e5 =
    let third : o3 ≡ o1 ++ 32 ∷ (c ++ 32 ∷ d) = e3 ∙ ap (λ (t : List ℕ). t ++ (c ++ 32 ∷ d)) e2 ∙ append_assoc o1 (32 ∷ []) (c ++ 32 ∷ d) in
    e5 ∙ ap (λ (t : List ℕ). t ++ e) e4 ∙ append_assoc o3 (32 ∷ []) e ∙ ap (λ (t : List ℕ). t ++ 32 ∷ e) third ∙ joined_two o1 (32 ∷ c) d e
    ∙ ap (λ (t : List ℕ). t ++ 32 ∷ (c ++ 32 ∷ (d ++ 32 ∷ e))) e1 ∙ joined_two old a b (c ++ 32 ∷ (d ++ 32 ∷ e))

five_and_more : (a b c d e y : List ℕ) → join_with_byte 32 (a ∷ b ∷ c ∷ d ∷ e ∷ []) ++ y ≡ a ++ 32 ∷ (b ++ 32 ∷ (c ++ 32 ∷ (d ++ 32 ∷ (e ++ y))))
five_and_more a b c d e y =
    append_assoc a (32 ∷ (b ++ 32 ∷ (c ++ 32 ∷ (d ++ 32 ∷ e)))) y ∙ ap (λ (t : List ℕ). a ++ 32 ∷ t) (append_assoc b (32 ∷ (c ++ 32 ∷ (d ++ 32 ∷ e))) y
    ∙ ap (λ (t : List ℕ). b ++ 32 ∷ t) (append_assoc c (32 ∷ (d ++ 32 ∷ e)) y ∙ ap (λ (t : List ℕ). c ++ 32 ∷ t) (append_assoc d (32 ∷ e) y)))

pub sixth_piece : (old a b c d e w o1 o2 o3 : List ℕ) → o1 ≡ old ++ join_with_byte 32 (a ∷ b ∷ c ∷ d ∷ e ∷ []) → o2 ≡ o1 ++ 32 ∷ [] → o3 ≡ o2 ++ w
    → o3 ≡ old ++ join_with_byte 32 (a ∷ b ∷ c ∷ d ∷ e ∷ w ∷ [])
sixth_piece old a b c d e w o1 o2 o3 e1 e2 e3 =
    e3 ∙ ap (λ (t : List ℕ). t ++ w) e2 ∙ append_assoc o1 (32 ∷ []) w ∙ ap (λ (t : List ℕ). t ++ 32 ∷ w) e1
    ∙ append_assoc old (join_with_byte 32 (a ∷ b ∷ c ∷ d ∷ e ∷ [])) (32 ∷ w) ∙ ap (λ (t : List ℕ). old ++ t) (five_and_more a b c d e (32 ∷ w))

pub first_then : (old first more whole o1 o2 : List ℕ) → o1 ≡ old ++ first → o2 ≡ o1 ++ more → whole ≡ first ++ more → o2 ≡ old ++ whole
first_then old first more whole o1 o2 e1 e2 is = e2 ∙ ap (λ (t : List ℕ). t ++ more) e1 ∙ append_assoc old first more ∙ ap (λ (t : List ℕ). old ++ t) (sym is)
