-- What an operator gets from a run that succeeds, in the words of the field: for the whole run, from the loaded records, over all
-- batches, to the state at its end.
use Rattle.std.specs.Prelude.{◌≡◌, ◌<◌, ℕ, zero, suc, List, [], ◌∷◌, length}
use Rattle.std.specs.List.{zip}
use Rattle.std.specs.List.Sorted.{IsPermutation}
use Rattle.machine.specs.Holders.{serving}
use Rattle.machine.specs.Keys.{shard_of}
use Rattle.machine.specs.declared.numbers.TheConstants.{SHARDS}
use Rattle.machine.specs.Parts.{part}
use Rattle.machine.specs.State.{State}
use Rattle.frames.specs.Octets.{RawEntry, RawEvent, RawOut, StepOctets}
use Rattle.frames.specs.OctetJournals.{AreHolders, MergesOctets}
use Rattle.shardlog.specs.Handling.{LeavesUnnamed}
use Rattle.shardlog.specs.Log.{Keeps}
use Rattle.wholenode.specs.Handling.{IsRun}
use Rattle.wholenode.specs.Nodes.{whole}
use Rattle.hlr_input.specs.declared.options.Options.{Options}
use Rattle.hlr_program.specs.Promise.{Serves}
use Rattle.hlr_program.specs.Runs.{events_in, opening_of, sent_in}
use Rattle.hlr_program.specs.Sharing.{workers_for}

-- The entries lead from one state to the other, and each leaves the open dialogues that its event does not name unchanged.
abbrev pub LeadUnnamed : State → List RawEntry → State → Type 0
LeadUnnamed S [] T = T ≡ S
LeadUnnamed S (raw ∷ raws) T = (M : State) × StepOctets S raw M × LeavesUnnamed S raw.event M × LeadUnnamed M raws T

-- A run of the whole register is what its sixteen shards have done, each for its own subscribers.
pub record IsKept (begin : State) (events : List RawEvent) (sent : List (List RawOut)) (end : State) : Type 0 where
  pub run : IsRun begin events sent end
  -- The entries of the run are those of sixteen journals, each in its own order.
  pub journals : ℕ → List RawEntry
  pub merges : MergesOctets journals run.entries
  -- Each of them has the invariant of every journal, from the shard's part of the first state to its part of the last: one
  -- subscriber's entries by themselves are a legal journal, to the same record and the same dialogues of this subscriber, unless an
  -- update of this subscriber met a full shard.
  pub keep : (n : ℕ) → n < SHARDS → Keeps n (part begin n) (journals n) (part end n)
  -- Exactly the serving register, or none, holds each subscriber.
  pub holders : (imsi : List ℕ)
      → AreHolders (shard_of imsi) (part begin (shard_of imsi)) (journals (shard_of imsi)) (part end (shard_of imsi)) imsi (serving (end.records imsi))
  -- No event changes an open dialogue that it does not name.
  pub unnamed : LeadUnnamed begin run.entries end

-- The same for the events in some order, each with what it sends.
pub record IsKeptInSomeOrder (begin : State) (events : List RawEvent) (sent : List (List RawOut)) (end : State) : Type 0 where
  pub one_each : length sent ≡ length events
  pub events_then : List RawEvent
  pub sent_then : List (List RawOut)
  pub order : IsPermutation (zip events sent) (zip events_then sent_then)
  pub kept : IsKept begin events_then sent_then end

-- In one thread the order is that of the script; with workers it is some order.
abbrev pub IsKeptWith : (workers : ℕ) → State → List RawEvent → List (List RawOut) → State → Type 0
IsKeptWith zero begin events sent end = IsKept begin events sent end
IsKeptWith (suc more) begin events sent end = IsKeptInSomeOrder begin events sent end

-- This holds for every run that ends with status 0: what its batches send, which is what is printed, is what such a run sends.
abbrev pub OperatorGets : Type 0
OperatorGets =
    (options : Options) (file script printed : List ℕ) (served : Serves options file script printed)
    → IsKeptWith (workers_for options.workers script) (opening_of served.loaded) (events_in served.ran.batches) (sent_in served.ran.batches) (whole served.ran.shards)
