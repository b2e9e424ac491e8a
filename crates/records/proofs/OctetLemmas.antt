-- What an octet's type guarantees.
use Rattle.std.proofs.Common.{◌≡◌, ℕ, zero, suc, ◌<◌, List, [], ◌∷◌, get_or, Fits, w8, arith}
use Rattle.std.specs.Prelude.{nat_lt, slice_index, true, refl}
use Rattle.std.specs.Str.{IsAscii}
use Rattle.std.specs.List.{list_all}
use Rattle.std.proofs.lemmas.Bool.{and_parts, ltb-true}
use Rattle.hex.specs.Hex.{IsBytes, upper_digits}
use Rattle.records.specs.Subscriber.{AreOctets}

fits_octet : (n : ℕ) → Fits w8 n → n < 256
fits_octet n h = omega arith

pub fit_octets : (xs : List ℕ) → ((i : ℕ) → Fits w8 (get_or xs i 0)) → AreOctets xs
fit_octets [] h = tt
fit_octets (x ∷ xs) h = (fits_octet x (h 0), fit_octets xs (λ i. h (suc i)))

pub bytes : (xs : List ℕ) → AreOctets xs → IsBytes xs
bytes [] h i = omega arith
bytes (x ∷ xs) h zero = h.0
bytes (x ∷ xs) h (suc i) = bytes xs h.1 i

-- ---- hexadecimal digits are ASCII

ascii_from : (xs : List ℕ) → list_all (λ x. nat_lt x 128) xs ≡ true → IsAscii xs
ascii_from [] e i = omega arith
ascii_from (x ∷ xs) e zero = ltb-true x 128 (and_parts (nat_lt x 128) (list_all (λ y. nat_lt y 128) xs) e).0
ascii_from (x ∷ xs) e (suc i) = ascii_from xs (and_parts (nat_lt x 128) (list_all (λ y. nat_lt y 128) xs) e).1 i

pub upper_ascii : (i : ℕ) → slice_index upper_digits i < 128
upper_ascii = ascii_from upper_digits refl
