-- The invariant of a shard's state.
use Rattle.std.specs.Prelude.{◌≡◌, ◌<◌}
use Rattle.machine.specs.declared.numbers.TheConstants.{SHARDS}
use Rattle.machine.specs.Parts.{part}
use Rattle.machine.specs.Sound.{Sound}
use Rattle.hlrcore.specs.Shards.{ShardState, state_of}

-- It is a sound state of the machine, with nothing of another shard in it.
pub record IsSoundShard (s : ShardState) : Type 0 where
  pub shard : s.shard < SHARDS
  pub sound : Sound (state_of s)
  pub own : state_of s ≡ part (state_of s) s.shard
