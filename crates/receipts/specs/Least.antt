-- The least number that is not accounted for.
use Rattle.std.specs.Prelude.{◌<◌, ℕ, List, All, Contains, Option, Some, None}
use Rattle.frames.specs.Octets.{RawEntry}
use Rattle.frames.specs.Account.{Account, IsStray, Job, Receipt}

-- n is the least of these numbers that is not accounted for
pub record IsLeastOf (journals : List (List RawEntry)) (jobs : List Job) (receipts : List Receipt) (ns : List ℕ) (n : ℕ) : Type 0 where
  pub among : Contains ns n
  pub fails : Account journals jobs receipts n → ⊥
  pub least : All (λ m. m < n → Account journals jobs receipts m) ns

-- all of these numbers are accounted for, or this is the least that is not
abbrev pub LeastAmong : List (List RawEntry) → List Job → List Receipt → List ℕ → Option ℕ → Type 0
LeastAmong journals jobs receipts ns None = All (Account journals jobs receipts) ns
LeastAmong journals jobs receipts ns (Some n) = IsLeastOf journals jobs receipts ns n

-- some entry is stray
abbrev pub HasStray : List (List RawEntry) → List Receipt → Type 0
HasStray journals receipts = (shard : ℕ) × (position : ℕ) × IsStray journals receipts shard position
