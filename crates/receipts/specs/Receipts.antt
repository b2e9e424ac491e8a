-- What a receipt says: where the entry of its job stands, and what was sent.
use Rattle.std.specs.Prelude.{◌≡◌, ℕ, List, Option, Some, None, Ok, Err, Result}
use Rattle.frames.specs.Account.{Place}
use Rattle.frames.specs.Octets.{RawEvent}
use Rattle.shardlog.specs.Log.{Log}
use Rattle.shardlog.specs.Handling.{Handles}
use Rattle.receipts.specs.declared.placed.Placed.{Placed}
use Rattle.receipts.specs.declared.refusal.Refusal.{Refusal}
use Rattle.receipts.specs.Jobs.{place_at}

abbrev pub placed : Placed → Place
placed p = place_at p.shard p.position p.outs

-- its place, none if the job was refused
abbrev pub place_of : Result Placed Refusal → Option Place
place_of (Ok p) = Some (placed p)
place_of (Err _) = None

-- The shard with this number handled the event, and the receipt says where the entry stands, which has the subject, and what was sent.
pub record IsPlaced (number : ℕ) (old : Log) (raw : RawEvent) (p : Placed) (new : Log) : Type 0 where
  pub shard : p.shard ≡ number
  pub subject : Option (List ℕ)
  pub handles : Handles old raw (record { position = p.position; subject = subject; outs = p.outs }) new
