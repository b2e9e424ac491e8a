-- Local transaction ids. Each is four octets: the number of the shard, and a number in three octets, the highest first
-- (profile; Q.773 lets a transaction id have 1 to 4 octets).
use Rattle.std.specs.Prelude.{◌≡◌, ◌<◌, ℕ, ◌+◌, ◌*◌, ◌/◌, ◌%◌, ◌^◌, ◌&&◌, nat_le, if◌then◌else◌, List, [], ◌∷◌, length, slice_index, Option, Some, None}
use Rattle.std.specs.List.{AllByRecursion}

-- The id of this number in a shard.
abbrev pub id_of : ℕ → ℕ → List ℕ
id_of shard number = shard ∷ number / 65536 ∷ number / 256 % 256 ∷ number % 256 ∷ []

-- The number in the last three octets of an id.
abbrev pub number_of : List ℕ → ℕ
number_of id = slice_index id 1 * 65536 + slice_index id 2 * 256 + slice_index id 3

-- The four octets of an id as one number, the first the highest.
abbrev pub word_of_id : List ℕ → ℕ
word_of_id id = slice_index id 0 * 16777216 + (slice_index id 1 * 65536 + (slice_index id 2 * 256 + slice_index id 3))

-- There are four of them, and each is an octet.
pub record AreFourOctets (id : List ℕ) : Type 0 where
  pub four : length id ≡ 4
  pub second : slice_index id 1 < 256
  pub third : slice_index id 2 < 256
  pub fourth : slice_index id 3 < 256

-- The local id that these octets are, if there are four.
abbrev pub local_id_of : List ℕ → Option (List ℕ)
local_id_of octets = if nat_le 4 (length octets) && nat_le (length octets) 4 then Some octets else None

-- The octets are this local id.
pub record IsLocalId (octets id : List ℕ) : Type 0 where
  pub same : octets ≡ id
  pub count : length id ≡ 4

-- An id of a shard: four octets, the number of the shard first, then three that are not all zero (profile).
pub record IsIdOf (shard : ℕ) (id : List ℕ) : Type 0 where
  pub four : length id ≡ 4
  pub octets : AllByRecursion (λ octet. octet < 256) id
  pub shard_first : slice_index id 0 ≡ shard
  pub not_zero : (slice_index id 1 ≡ 0 × slice_index id 2 ≡ 0 × slice_index id 3 ≡ 0) → ⊥

-- The first octet and the number in the other three determine an id.
pub record AreIdNumbers : Type 0 where
  pub number : (shard number : ℕ) → number < 2 ^ 24 → number_of (id_of shard number) ≡ number
  pub whole : (id : List ℕ) → length id ≡ 4 → AllByRecursion (λ octet. octet < 256) id → id_of (slice_index id 0) (number_of id) ≡ id
