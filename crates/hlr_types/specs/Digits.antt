-- Digits, as lists of numbers. They are texts: leading zeros count, and two addresses are the same if their digits are.
use Rattle.std.specs.Prelude.{ℕ, ◌<◌, ◌≤◌, List, length}
use Rattle.std.specs.List.{AllByRecursion}

-- 1 to 16 digits from 0 to 9: what eight octets of TBCD hold, the most that an address has (TS 29.002 17.7.8,
-- ISDN-AddressString). Other digit codes are not digits (profile).
pub record AreSomeDigits (digits : List ℕ) : Type 0 where
  pub some : 0 < length digits
  pub most : length digits ≤ 16
  pub each : AllByRecursion (λ d. d < 10) digits

-- An IMSI has at most 15 digits (E.212; TS 23.003 2.2), and at least 5, the fewest that take the three octets of its shortest
-- form (TS 29.002 17.7.8, IMSI).
pub record AreImsiDigits (digits : List ℕ) : Type 0 where
  pub least : 5 ≤ length digits
  pub most : length digits ≤ 15
