-- Digits, octet strings and ids as lists of numbers, and maps from them. A map is a function from a key to its value, or to
-- `None`. Two maps are equal if they agree on every key.
use Rattle.std.specs.Prelude.{ℕ, List, [], ◌∷◌, Bool, true, false, cond, ◌&&◌, bytes_eq, ◌+◌, ◌-◌, ◌*◌, ◌%◌, ◌==◌, length, slice_index, ◌≡◌, ◌≢◌, ◌⊎◌}
pub use Rattle.std.specs.List.{AllByRecursion as Every}

-- whether two lists are the same
abbrev pub same : List ℕ → List ℕ → Bool
same a b = bytes_eq a b

-- the map with the value at one key replaced
unfoldable pub put : {X : Type 0} → (List ℕ → X) → List ℕ → X → List ℕ → X
put map key value asked = cond (same key asked) value (map asked)

-- the same with numbers as keys
unfoldable pub put_at : {X : Type 0} → (ℕ → X) → ℕ → X → ℕ → X
put_at map key value asked = cond (key == asked) value (map asked)

-- whether the first list is a prefix of the second
abbrev pub is_prefix : List ℕ → List ℕ → Bool
is_prefix [] ys = true
is_prefix (x ∷ xs) [] = false
is_prefix (x ∷ xs) (y ∷ ys) = (x == y) && is_prefix xs ys

-- The shard of a subscriber: the number made of the last two digits of the IMSI, modulo 16 (profile).
unfoldable pub shard_of : List ℕ → ℕ
shard_of imsi = (10 * slice_index imsi (length imsi - 2) + slice_index imsi (length imsi - 1)) % 16

-- The shard of a local id: its first octet (profile).
unfoldable pub shard_of_id : List ℕ → ℕ
shard_of_id id = slice_index id 0

-- the key is in the list
abbrev pub IsIn : List ℕ → List (List ℕ) → Type 0
IsIn key [] = ⊥
IsIn key (k ∷ ks) = (key ≡ k) ⊎ IsIn key ks

-- the key is not in the list
abbrev pub IsNotIn : List ℕ → List (List ℕ) → Type 0
IsNotIn key keys = Every (λ k. key ≢ k) keys

-- no key occurs twice
abbrev pub AreDifferent : List (List ℕ) → Type 0
AreDifferent [] = Unit {0}
AreDifferent (k ∷ ks) = IsNotIn k ks × AreDifferent ks
