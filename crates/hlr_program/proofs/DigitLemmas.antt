-- The digits of octets that are joined or cut.
use Rattle.std.proofs.Common.{◌≡◌, ℕ, zero, suc, ◌+◌, ◌*◌, ◌≤◌, List, [], ◌∷◌, ◌++◌, length, take, drop, refl, sym, ap, ◌∙◌, arith}
use Rattle.std.proofs.lemmas.List.{append-nil, append_assoc, drop_all, length-take-le, take-take, take_all}
use Rattle.std.proofs.Math.Seq.{take-add, take-append_seam}
use Rattle.hex.specs.Hex.{encode_with, encode_upper, upper_digits}
use Rattle.hex.proofs.HexLemmas.{length-encode_with}

digits_append : (octets more : List ℕ) → encode_upper (octets ++ more) ≡ encode_upper octets ++ encode_upper more
unfolding encode_with
digits_append [] more = refl
digits_append (octet ∷ octets) more = rw (digits_append octets more) refl

take_digits : (n : ℕ) (octets : List ℕ) → take (2 * n) (encode_upper octets) ≡ encode_upper (take n octets)
unfolding encode_with
take_digits zero octets = refl
take_digits (suc n) [] = take_all (2 * suc n) [] (omega arith)
take_digits (suc n) (octet ∷ octets) =
    let two : 2 * suc n ≡ suc (suc (2 * n)) = omega arith in
    rw (two, take_digits n octets) refl

-- the digits of octets that others follow
pub first_digits : (octets more : List ℕ) (n : ℕ) → n ≡ 2 * length octets → take n (encode_upper (octets ++ more)) ≡ encode_upper octets
first_digits octets more n twice =
    ap (λ (m : ℕ). take m (encode_upper (octets ++ more))) twice
    ∙ take_digits (length octets) (octets ++ more)
    ∙ ap (λ (os : List ℕ). encode_upper os) (take-append_seam octets more)

-- those of sixteen more
joined : (octets rest : List ℕ) (place : ℕ)
    → encode_upper (take place octets) ++ (encode_upper (take 16 (drop place octets)) ++ rest) ≡ encode_upper (take (place + 16) octets) ++ rest
joined octets rest place =
    sym (append_assoc (encode_upper (take place octets)) (encode_upper (take 16 (drop place octets))) rest)
    ∙ ap (λ (front : List ℕ). front ++ rest) (
    sym (digits_append (take place octets) (take 16 (drop place octets)))
    ∙ ap (λ (os : List ℕ). encode_upper os) (sym (take-add place 16 octets))
    )

pub lot_more : (octets digits rest : List ℕ) (place : ℕ) → place + 16 ≤ length octets → take (2 * place) digits ≡ encode_upper (take place octets)
    → take (2 * (place + 16)) (take (2 * place) digits ++ (encode_upper (take 16 (drop place octets)) ++ rest)) ≡ encode_upper (take (place + 16) octets)
lot_more octets digits rest place room is =
    let long : 2 * (place + 16) ≡ length (encode_upper (take (place + 16) octets)) =
    sym (length-encode_with upper_digits (take (place + 16) octets) ∙ ap (λ (n : ℕ). 2 * n) (length-take-le (place + 16) octets room)) in
    ap (λ (front : List ℕ). take (2 * (place + 16)) (front ++ (encode_upper (take 16 (drop place octets)) ++ rest))) is
    ∙ ap (λ (ds : List ℕ). take (2 * (place + 16)) ds) (joined octets rest place)
    ∙ ap (λ (n : ℕ). take n (encode_upper (take (place + 16) octets) ++ rest)) long
    ∙ take-append_seam (encode_upper (take (place + 16) octets)) rest

-- the last sixteen, some of them again
pub last_lot : (octets digits : List ℕ) (place last : ℕ) → last ≤ place → last + 16 ≡ length octets → length digits ≡ 2 * length octets
    → take (2 * place) digits ≡ encode_upper (take place octets)
    → take (2 * last) digits ++ (encode_upper (take 16 (drop last octets)) ++ drop (2 * last + 32) digits) ≡ encode_upper octets
last_lot octets digits place last most end twice is =
    let front : take (2 * last) digits ≡ encode_upper (take last octets) =
    sym (take-take (2 * last) (2 * place) digits (omega (arith, most)))
    ∙ ap (λ (ds : List ℕ). take (2 * last) ds) is
    ∙ take_digits last (take place octets)
    ∙ ap (λ (os : List ℕ). encode_upper os) (take-take last place octets most) in
    let none : drop (2 * last + 32) digits ≡ [] = drop_all (2 * last + 32) digits (omega (arith, end, twice)) in
    let all : take (last + 16) octets ≡ octets = take_all (last + 16) octets (omega (arith, end)) in
    ap (λ (ds : List ℕ). ds ++ (encode_upper (take 16 (drop last octets)) ++ drop (2 * last + 32) digits)) front
    ∙ joined octets (drop (2 * last + 32) digits) last
    ∙ rw (none, all) (append-nil (encode_upper octets))
