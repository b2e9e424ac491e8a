-- The shard of a subscriber, as the records and the machine have it.
use Rattle.std.proofs.Common.{◌≡◌, ◌<◌, ℕ, List, refl, arith}
use Rattle.records.specs.Maps.{shard_of}
use Rattle.machine.specs.Keys as machine

pub same_shard : (imsi : List ℕ) → shard_of imsi ≡ machine.shard_of imsi
unfolding shard_of machine.shard_of
same_shard imsi = refl

pub small_shard : (imsi : List ℕ) → shard_of imsi < 16
unfolding shard_of
small_shard imsi = omega arith
