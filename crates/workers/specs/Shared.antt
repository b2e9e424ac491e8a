-- A register that workers share: the bases of its locked shards, and the jobs and receipts since its journals were last cut.
use Rattle.std.specs.Prelude.{◌≡◌, ◌<◌, ◌+◌, ℕ, cond, nat_lt, List, [], ◌++◌, map, length, zip, Option, Some, None, slice_get, slice_index, refl}
use Rattle.std.specs.Coded.{Coded, code_by, coded×, coded_list}
use Rattle.std.specs.List.Sorted.{IsPermutation}
use Rattle.machine.specs.declared.numbers.TheConstants.{MAX_ENTRIES}
use Rattle.machine.specs.Parts.{union}
use Rattle.machine.specs.State.{State}
use Rattle.frames.specs.Account.{Job, Place, Receipt, Reconciles}
use Rattle.frames.specs.Octets.{RawEntry, RawEvent, RawOut, RunOctets}
use Rattle.frames.specs.OctetJournals.{MergesOctets}
use Rattle.records.specs.Maps.{DirectoryMap}
use Rattle.hlrcore.specs.Shards.{ShardState, shard_state_code, state_of}
use Rattle.shardlog.specs.Log.{Log}
use Rattle.wholenode.specs.Keeping.{AreShards, AreStates}
use Rattle.wholenode.specs.Nodes.{NodeState, journals, nothing, whole, whole_base}
use Rattle.receipts.specs.Jobs.{job_code, receipt_code}
use Rattle.receipts.specs.Journals.{journal_list}
use Rattle.workers.specs.Going.{bases_of}

-- The bases of the shards, and what was done since: a receipt for each job, in the order of the jobs.
pub record SharedState : Type 0 where
  pub bases : List ShardState
  pub jobs : List Job
  pub receipts : List Receipt

abbrev pub shared_state : List ShardState → List Job → List Receipt → SharedState
shared_state bases jobs receipts = record { bases = bases; jobs = jobs; receipts = receipts }

abbrev pub shared_state_code : Coded SharedState
shared_state_code =
    code_by (List ShardState × (List Job × List Receipt)) (coded× (coded_list shard_state_code) (coded× (coded_list job_code) (coded_list receipt_code)))
    (λ s. (s.bases, (s.jobs, s.receipts))) (λ p. shared_state p.0 p.1.0 p.1.1) (λ _. refl)

-- the bases of a register's shards, none if there is no register
abbrev pub bases_in : Option NodeState → List ShardState
bases_in None = []
bases_in (Some node) = bases_of node.shards

-- the numbers of jobs, and the jobs that receipts are for
abbrev pub numbers_of_jobs : List Job → List ℕ
numbers_of_jobs jobs = map (λ j. j.number) jobs

abbrev pub jobs_of_receipts : List Receipt → List ℕ
jobs_of_receipts receipts = map (λ r. r.job) receipts

-- the events of jobs
abbrev pub events_of_jobs : List Job → List RawEvent
events_of_jobs jobs = map (λ j. j.event) jobs

-- what was sent for a job: nothing if it was refused
abbrev pub sent_at : Option Place → List RawOut
sent_at None = []
sent_at (Some place) = place.outs

-- what was sent for jobs, by their receipts
abbrev pub sent_for : List Receipt → List (List RawOut)
sent_for receipts = map (λ r. sent_at r.place) receipts

-- these are the last receipts
abbrev pub AreLast : List Receipt → SharedState → Type 0
AreLast last s = (earlier : List Receipt) × (s.receipts ≡ earlier ++ last)

-- ---- runs in another order than that of the events

-- the event and the frames of an entry
abbrev pub event_and_frames : RawEntry → RawEvent × List RawOut
event_and_frames entry = (entry.event, entry.outs)

-- The events, in some order, lead from one state to the other by a run of the machine over octets; each of them sends this.
pub record IsRunInSomeOrder (S : State) (events : List RawEvent) (sent : List (List RawOut)) (T : State) : Type 0 where
  pub entries : List RawEntry
  pub one_each : length sent ≡ length events
  pub order : IsPermutation (zip events sent) (map event_and_frames entries)
  pub run : RunOctets S entries T

-- ---- what a shared register has handled

-- the state of a shard, if there is one
abbrev pub state_or_nothing : Option ShardState → State
state_or_nothing None = nothing
state_or_nothing (Some s) = state_of s

-- the state that bases are together
abbrev pub whole_of : List ShardState → State
whole_of bases = union (λ n. state_or_nothing (slice_get bases n))

-- The register has handled these events, which have sent this: the first, up to the last cut, are such a run to the bases; the
-- others are those of its jobs, and their frames those of its receipts.
pub record StandsBehind (begin : State) (events : List RawEvent) (sent : List (List RawOut)) (s : SharedState) : Type 0 where
  pub directory : DirectoryMap
  pub are_bases : AreStates directory s.bases
  pub before_cut : List RawEvent
  pub sent_before_cut : List (List RawOut)
  pub events_are : events ≡ before_cut ++ events_of_jobs s.jobs
  pub sent_are : sent ≡ sent_before_cut ++ sent_for s.receipts
  pub pairs : jobs_of_receipts s.receipts ≡ numbers_of_jobs s.jobs
  pub to_cut : IsRunInSomeOrder begin before_cut sent_before_cut (whole_of s.bases)

-- These events continue every run that the register has handled, and send this, one list for each.
abbrev pub GoesOn : SharedState → List RawEvent → List (List RawOut) → SharedState → Type 0
GoesOn before events sent after =
    (length sent ≡ length events)
    × ((begin : State) (earlier : List RawEvent) (sent_earlier : List (List RawOut))
    → StandsBehind begin earlier sent_earlier before → StandsBehind begin (earlier ++ events) (sent_earlier ++ sent) after)

-- The shards that are returned at the end: the events up to the last cut, and then the others, are such runs; the journals have
-- the entries of the others.
pub record HandsOut (begin : State) (events : List RawEvent) (sent : List (List RawOut)) (shards : List Log) : Type 0 where
  pub directory : DirectoryMap
  pub are_shards : AreShards directory shards
  pub before_cut : List RawEvent
  pub sent_before_cut : List (List RawOut)
  pub kept : List RawEvent
  pub sent_kept : List (List RawOut)
  pub events_are : events ≡ before_cut ++ kept
  pub sent_are : sent ≡ sent_before_cut ++ sent_kept
  pub to_cut : IsRunInSomeOrder begin before_cut sent_before_cut (whole_base shards)
  pub from_cut : IsRunInSomeOrder (whole_base shards) kept sent_kept (whole shards)
  pub merges : MergesOctets (journals shards) from_cut.entries

-- ---- the shards, once jobs and receipts account for their journals

-- Shards that began with these bases, whose journals the jobs and receipts account for.
pub record AreSettled (bases : List ShardState) (jobs : List Job) (receipts : List Receipt) (shards : List Log) : Type 0 where
  pub same : bases_of shards ≡ bases
  pub account : Reconciles (journal_list shards) jobs receipts
  pub one_register : (directory : DirectoryMap) → AreStates directory bases → AreShards directory shards

-- ---- numbers

-- The numbers are consecutive, from the first on.
abbrev pub CountsFrom : ℕ → List ℕ → Type 0
CountsFrom first ns = (k : ℕ) → k < length ns → slice_index ns k ≡ first + k

-- Jobs with these events are appended, numbered from the first on.
pub record AddsJobs (first : ℕ) (events : List RawEvent) (before after : List Job) : Type 0 where
  pub jobs : List Job
  pub after_is : after ≡ before ++ jobs
  pub numbers : CountsFrom first (numbers_of_jobs jobs)
  pub events_are : events_of_jobs jobs ≡ events

-- the position after an entry, if a journal may have one there; else 0
abbrev pub end_at : Option Place → ℕ
end_at None = 0
end_at (Some place) = cond (nat_lt place.position MAX_ENTRIES) (place.position + 1) 0
