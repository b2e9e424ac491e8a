-- The entries of a run in the register's journals: the last ones, from a cut on.
use Rattle.std.specs.Prelude.{◌≡◌, List, ◌++◌}
use Rattle.machine.specs.State.{State}
use Rattle.frames.specs.Octets.{RawEvent, RawOut}
use Rattle.frames.specs.OctetJournals.{MergesOctets}
use Rattle.wholenode.specs.Handling.{IsRun}
use Rattle.wholenode.specs.Nodes.{NodeState, journals, whole, whole_base}

-- The register is at the end of a run from this state, with these events, that sends this. Its journals begin in the state after
-- the first events, and have the entries of the others: each journal those of its shard, in order.
pub record IsAtEnd (begin : State) (events : List RawEvent) (sent : List (List RawOut)) (node : NodeState) : Type 0 where
  pub before_cut : List RawEvent
  pub sent_before_cut : List (List RawOut)
  pub kept : List RawEvent
  pub sent_kept : List (List RawOut)
  pub events_are : events ≡ before_cut ++ kept
  pub sent_are : sent ≡ sent_before_cut ++ sent_kept
  pub to_cut : IsRun begin before_cut sent_before_cut (whole_base node.shards)
  pub from_cut : IsRun (whole_base node.shards) kept sent_kept (whole node.shards)
  pub merges : MergesOctets (journals node.shards) from_cut.entries

-- These events continue every run that the register is at the end of, and send this.
abbrev pub Continues : NodeState → List RawEvent → List (List RawOut) → NodeState → Type 0
Continues before events sent after =
    (begin : State) (earlier : List RawEvent) (sent_earlier : List (List RawOut))
    → IsAtEnd begin earlier sent_earlier before → IsAtEnd begin (earlier ++ events) (sent_earlier ++ sent) after

-- In one thread the events lead to this register, and send this: they are a run of the machine, and the journals have its last entries.
abbrev pub RunsAlone : NodeState → List RawEvent → List (List RawOut) → NodeState → Type 0
RunsAlone before events sent after = IsRun (whole before.shards) events sent (whole after.shards) × Continues before events sent after
