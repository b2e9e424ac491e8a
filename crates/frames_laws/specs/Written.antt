-- Octets and digits as they are written in the worked examples.
use Rattle.std.specs.Prelude.{ℕ, ◌+◌, ◌-◌, ◌*◌, List, [], ◌∷◌, map, nat_lt, if◌then◌else◌, codes}
use Prim.Native.String.{String}

-- the number of a hexadecimal digit, 0 to 9 or A to F
abbrev pub half : ℕ → ℕ
half character = if nat_lt character 58 then character - 48 else character - 55

-- the octets of hexadecimal characters, with one space between them
abbrev pub octets_in : List ℕ → List ℕ
octets_in [] = []
octets_in (first ∷ []) = []
octets_in (first ∷ second ∷ []) = (16 * half first + half second) ∷ []
octets_in (first ∷ second ∷ space ∷ rest) = (16 * half first + half second) ∷ octets_in rest

abbrev pub hex : String → List ℕ
hex text = octets_in (codes text)

abbrev pub digits : String → List ℕ
digits text = map (λ character. character - 48) (codes text)
