-- What a worker's answer to a job says, whatever the lock held.
use Rattle.std.specs.Prelude.{ℕ, List, Option}
use Rattle.frames.specs.Account.{Place}
use Rattle.frames.specs.Octets.{RawEvent}
use Rattle.shardlog.specs.Handling.{Handles}
use Rattle.shardlog.specs.Log.{Log}

-- Some shard handled the event, whose entry stands at this position, and this was sent. (No contract knows which shard a lock held.)
pub record IsAnswered (raw : RawEvent) (place : Place) : Type 0 where
  pub old : Log
  pub new : Log
  pub subject : Option (List ℕ)
  pub handles : Handles old raw (record { position = place.position; subject = subject; outs = place.outs }) new
