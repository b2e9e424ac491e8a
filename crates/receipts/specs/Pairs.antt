-- Jobs and receipts in pairs, and places that are named once.
use Rattle.std.specs.Prelude.{◌≡◌, ℕ, List, [], ◌∷◌, count_by, Some}
use Rattle.frames.specs.Octets.{RawEntry}
use Rattle.frames.specs.Account.{Job, Place, Receipt, entry_at, names_place}

-- The receipt has the job's number and a place, and the entry there has the job's event and the octets that were sent.
pub record IsPair (journals : List (List RawEntry)) (job : Job) (receipt : Receipt) : Type 0 where
  pub number : receipt.job ≡ job.number
  pub place : Place
  pub entry : RawEntry
  pub is_ok : receipt.place ≡ Some place
  pub stands : entry_at journals place.shard place.position ≡ Some entry
  pub event : entry.event ≡ job.event
  pub outs : entry.outs ≡ place.outs

-- Each job and the receipt at the same index.
abbrev pub ArePairs : List (List RawEntry) → List Job → List Receipt → Type 0
ArePairs journals [] [] = Unit {0}
ArePairs journals [] (r ∷ receipts) = ⊥
ArePairs journals (j ∷ jobs) [] = ⊥
ArePairs journals (j ∷ jobs) (r ∷ receipts) = IsPair journals j r × ArePairs journals jobs receipts

-- Each entry is named by exactly one receipt.
abbrev pub EachNamedOnce : List (List RawEntry) → List Receipt → Type 0
EachNamedOnce journals receipts =
    (shard position : ℕ) (e : RawEntry) → entry_at journals shard position ≡ Some e → count_by (names_place shard position) receipts ≡ 1
