-- The shards of a register, and the state that they are together.
use Rattle.std.specs.Prelude.{ℕ, List, [], Option, Some, None, slice_get, refl}
use Rattle.std.specs.Coded.{Coded, code_by, coded×, coded_list}
use Rattle.machine.specs.Opening.{opening}
use Rattle.machine.specs.Parts.{union}
use Rattle.machine.specs.State.{State}
use Rattle.frames.specs.Octets.{RawEntry}
use Rattle.records.specs.Maps.{DirectoryMap, directory_map_code}
use Rattle.hlrcore.specs.Shards.{state_of}
use Rattle.shardlog.specs.Log.{Log, log_code}

-- The directory, by which each event finds its shard, and the shards with their journals, indexed by their numbers.
pub record NodeState : Type 0 where
  pub directory : DirectoryMap
  pub shards : List Log

abbrev pub node : DirectoryMap → List Log → NodeState
node directory shards = record { directory = directory; shards = shards }

abbrev pub node_state_code : Coded NodeState
node_state_code = code_by (DirectoryMap × List Log) (coded× directory_map_code (coded_list log_code)) (λ n. (n.directory, n.shards))
    (λ p. node p.0 p.1) (λ _. refl)

-- an empty state
abbrev pub nothing : State
nothing = opening (λ _. None) (λ _. None) []

-- ---- of a shard, if there is one

abbrev pub state_at : Option Log → State
state_at None = nothing
state_at (Some l) = state_of l.state

abbrev pub base_at : Option Log → State
base_at None = nothing
base_at (Some l) = state_of l.base

abbrev pub journal_at : Option Log → List RawEntry
journal_at None = []
journal_at (Some l) = l.entries

-- ---- of all shards, by their places

-- their current states
abbrev pub states : List Log → ℕ → State
states shards n = state_at (slice_get shards n)

-- the states in which their journals begin
abbrev pub bases : List Log → ℕ → State
bases shards n = base_at (slice_get shards n)

-- their journals
abbrev pub journals : List Log → ℕ → List RawEntry
journals shards n = journal_at (slice_get shards n)

-- The shards together, as one state of the machine.
abbrev pub whole : List Log → State
whole shards = union (states shards)

-- The same for the states in which their journals begin.
abbrev pub whole_base : List Log → State
whole_base shards = union (bases shards)
