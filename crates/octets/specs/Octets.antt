-- Octets, as numbers, and how many of them a transaction id has.
use Rattle.std.specs.Prelude.{ℕ, ◌<◌, ◌≤◌, List, length}
use Rattle.std.specs.List.{AllByRecursion}

-- one octet
abbrev pub IsOctet : ℕ → Type 0
IsOctet n = n < 256

-- each is an octet
abbrev pub AreOctets : List ℕ → Type 0
AreOctets octets = AllByRecursion IsOctet octets

-- as many octets as a transaction id has: one to four (Q.773)
pub record HasIdLength (id : List ℕ) : Type 0 where
  pub some : 1 ≤ length id
  pub most : length id ≤ 4
