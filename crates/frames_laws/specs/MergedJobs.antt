-- What holds of merges of journals that are accounted for, as the contract of this crate's function states it.
use Rattle.std.specs.Prelude.{◌≡◌, ◌==◌, ℕ, ◌<◌, List, [], ◌∷◌, length, map, filter, Some, slice_get}
use Rattle.std.specs.List.Sorted.{IsPermutation}
use Rattle.machine.specs.declared.numbers.TheConstants.{SHARDS}
use Rattle.machine.specs.State.{State}
use Rattle.machine.specs.Parts.{union}
use Rattle.frames.specs.Octets.{RawEntry, RunOctets}
use Rattle.frames.specs.OctetJournals.{LegalOctets, MergesOctets}
use Rattle.frames.specs.Account.{Job, Place, Receipt, Reconciles}

-- The entry is that of the job of this number: it has the job's event and its receipt's frames.
pub record IsEntryOf (jobs : List Job) (receipts : List Receipt) (entry : RawEntry) (n : ℕ) : Type 0 where
  pub job : Job
  pub receipt : Receipt
  pub place : Place
  pub one_job : filter (λ j. j.number == n) jobs ≡ job ∷ []
  pub one_receipt : filter (λ r. r.job == n) receipts ≡ receipt ∷ []
  pub is_ok : receipt.place ≡ Some place
  pub event : entry.event ≡ job.event
  pub outs : entry.outs ≡ place.outs

-- The entries are those of the jobs with these numbers, one by one.
abbrev pub AreEntriesOf : List Job → List Receipt → List RawEntry → List ℕ → Type 0
AreEntriesOf jobs receipts [] [] = Unit {0}
AreEntriesOf jobs receipts [] (n ∷ ns) = ⊥
AreEntriesOf jobs receipts (e ∷ es) [] = ⊥
AreEntriesOf jobs receipts (e ∷ es) (n ∷ ns) = IsEntryOf jobs receipts e n × AreEntriesOf jobs receipts es ns

-- The entries are those of the jobs, in some order, each once.
pub record AreJobs (jobs : List Job) (receipts : List Receipt) (entries : List RawEntry) : Type 0 where
  pub order : List ℕ
  pub each_once : IsPermutation (map (λ j. j.number) jobs) order
  pub are : AreEntriesOf jobs receipts entries order

-- If jobs and receipts account for sixteen journals, a merge of these has the entries of the jobs, each once.
abbrev pub MergedAreJobs : Type 0
MergedAreJobs =
    (journal_of : ℕ → List RawEntry) (list : List (List RawEntry)) (jobs : List Job) (receipts : List Receipt) (merge : List RawEntry)
    → length list ≡ SHARDS → ((n : ℕ) → n < SHARDS → slice_get list n ≡ Some (journal_of n)) → Reconciles list jobs receipts
    → MergesOctets journal_of merge → AreJobs jobs receipts merge

-- A run of the whole register whose events are the jobs', each once, with their receipts' frames.
pub record IsRunOfJobs (before : State) (jobs : List Job) (receipts : List Receipt) (merge : List RawEntry) (after : State) : Type 0 where
  pub run : RunOctets before merge after
  pub jobs_are : AreJobs jobs receipts merge

-- If the sixteen journals are legal too, the merge is such a run, from the union of the bases to the union of the states.
abbrev pub MergedAreRunsOfJobs : Type 0
MergedAreRunsOfJobs =
    (bases states : ℕ → State) (journal_of : ℕ → List RawEntry) (list : List (List RawEntry)) (jobs : List Job) (receipts : List Receipt)
    (merge : List RawEntry)
    → ((n : ℕ) → n < SHARDS → LegalOctets n (bases n) (journal_of n) (states n))
    → ((n : ℕ) → n < SHARDS → (bases n).directory ≡ (bases 0).directory) → ((n : ℕ) → n < SHARDS → (bases n).hlr ≡ (bases 0).hlr)
    → length list ≡ SHARDS → ((n : ℕ) → n < SHARDS → slice_get list n ≡ Some (journal_of n)) → Reconciles list jobs receipts
    → MergesOctets journal_of merge → IsRunOfJobs (union bases) jobs receipts merge (union states)
