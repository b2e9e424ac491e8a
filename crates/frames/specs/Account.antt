-- When jobs and receipts account for journals of octets.
use Rattle.std.specs.Prelude.{◌≡◌, ◌<◌, ◌≤◌, ◌==◌, ◌&&◌, ◌⊎◌, ◌++◌, ◌∷◌, [], ℕ, Bool, false, List, map, filter, count_by, All, Contains, slice_get, Option, Some, None}
use Rattle.frames.specs.Octets.{RawEvent, RawOut, RawEntry}

-- A job: an event under a number.
pub record Job : Type 0 where
  pub number : ℕ
  pub event : RawEvent

-- The place of an entry, its shard and its position there, both counted from 0, and what was sent.
pub record Place : Type 0 where
  pub shard : ℕ
  pub position : ℕ
  pub outs : List RawOut

-- What became of a job: its place, or nothing if it was refused.
pub record Receipt : Type 0 where
  pub job : ℕ
  pub place : Option Place

-- the entry at a position of a shard's journal
abbrev pub in_journal : Option (List RawEntry) → ℕ → Option RawEntry
in_journal None position = None
in_journal (Some raws) position = slice_get raws position

abbrev pub entry_at : List (List RawEntry) → (shard position : ℕ) → Option RawEntry
entry_at journals shard position = in_journal (slice_get journals shard) position

-- whether the receipt names this place
abbrev pub is_place : (shard position : ℕ) → Option Place → Bool
is_place shard position None = false
is_place shard position (Some place) = (place.shard == shard) && (place.position == position)

abbrev pub names_place : (shard position : ℕ) → Receipt → Bool
names_place shard position receipt = is_place shard position receipt.place

-- The entry at the place has the job's event and the octets that were sent, and no other receipt names the place.
pub record Answers (journals : List (List RawEntry)) (receipts : List Receipt) (job : Job) (place : Place) : Type 0 where
  pub entry : RawEntry
  pub stands : entry_at journals place.shard place.position ≡ Some entry
  pub event : entry.event ≡ job.event
  pub outs : entry.outs ≡ place.outs
  pub alone : count_by (names_place place.shard place.position) receipts ≡ 1

-- Exactly one job and exactly one receipt have the number n, and the receipt answers the job.
pub record Account (journals : List (List RawEntry)) (jobs : List Job) (receipts : List Receipt) (n : ℕ) : Type 0 where
  pub job : Job
  pub receipt : Receipt
  pub place : Place
  pub one_job : filter (λ j. j.number == n) jobs ≡ job ∷ []
  pub one_receipt : filter (λ r. r.job == n) receipts ≡ receipt ∷ []
  pub is_ok : receipt.place ≡ Some place
  pub answers : Answers journals receipts job place

-- An entry is stray if no receipt names its place.
pub record IsStray (journals : List (List RawEntry)) (receipts : List Receipt) (shard position : ℕ) : Type 0 where
  pub entry : RawEntry
  pub stands : entry_at journals shard position ≡ Some entry
  pub unnamed : count_by (names_place shard position) receipts ≡ 0

abbrev pub NoStray : List (List RawEntry) → List Receipt → Type 0
NoStray journals receipts = (shard position : ℕ) → IsStray journals receipts shard position → ⊥

-- the numbers of the jobs and of the receipts
abbrev pub numbers : List Job → List Receipt → List ℕ
numbers jobs receipts = map (λ j. j.number) jobs ++ map (λ r. r.job) receipts

-- Each number is accounted for, and no entry is stray.
pub record Reconciles (journals : List (List RawEntry)) (jobs : List Job) (receipts : List Receipt) : Type 0 where
  pub each : All (Account journals jobs receipts) (numbers jobs receipts)
  pub none_stray : NoStray journals receipts

-- n is the least of these numbers that is not accounted for
pub record IsLeastFault (journals : List (List RawEntry)) (jobs : List Job) (receipts : List Receipt) (n : ℕ) : Type 0 where
  pub among : Contains (numbers jobs receipts) n
  pub fails : Account journals jobs receipts n → ⊥
  pub least : All (λ m. m < n → Account journals jobs receipts m) (numbers jobs receipts)

-- Why they do not reconcile: the least number that is not accounted for, or 0 if each is and only an entry is stray.
abbrev pub Unaccounts : List (List RawEntry) → List Job → List Receipt → ℕ → Type 0
Unaccounts journals jobs receipts n =
    ((1 ≤ n) × IsLeastFault journals jobs receipts n)
    ⊎ ((n ≡ 0) × All (Account journals jobs receipts) (numbers jobs receipts) × ((shard : ℕ) × (position : ℕ) × IsStray journals receipts shard position))
