-- What is written of a register is read again as that register.
use Rattle.std.specs.Prelude.{◌≡◌, ℕ, List, [], ◌∷◌, option_map}
use Rattle.std.specs.FinMap as map
use Rattle.std.specs.List.{AllByRecursion}
use Rattle.records.specs.Subscriber.{unmarked}
use Rattle.hlrcore.specs.Shards.{ShardState}
use Rattle.image_lines.specs.Lines.{Line, IsLine}
use Rattle.images.specs.Reading.{Begins, Ends, Reading, Takes, reading}
use Rattle.images.specs.Written.{shard_lines}

-- A shard that begins with the records of another as a saved file has them, which is without the marks of current updates.
pub record BeginsAs (s o : ShardState) : Type 0 where
  pub shard : o.shard ≡ s.shard
  pub directory : o.directory ≡ s.directory
  pub hlr : o.hlr ≡ s.hlr
  pub records : (imsi : List ℕ) → map.get o.records imsi ≡ option_map unmarked (map.get s.records imsi)

-- These lines, one after the other, make this of what was read.
abbrev pub TakesAll : Reading → List Line → Reading → Type 0
TakesAll before [] after = before ≡ after
TakesAll before (line ∷ more) after = (r : Reading) × Takes before line r × TakesAll r more after

-- And then the shard is whole, and is this one.
abbrev pub TakesTo : Reading → List Line → ShardState → Type 0
TakesTo before lines t = (r : Reading) × TakesAll before lines r × Ends r t

-- Its lines are read as this shard, from each that begins with its records.
abbrev pub IsReadAgain : ShardState → Type 0
IsReadAgain s = (o : ShardState) → BeginsAs s o → TakesTo (reading o Begins) (shard_lines s) s

-- Each shard can be written and is read again, from the one that begins with its records; there is one at least.
abbrev pub EachIsReadAgain : (shards begin : List ShardState) → Type 0
EachIsReadAgain [] [] = Unit {0}
EachIsReadAgain (s ∷ ss) (o ∷ os) = (BeginsAs s o × IsReadAgain s × AllByRecursion IsLine (shard_lines s)) × EachIsReadAgain ss os
EachIsReadAgain [] (o ∷ os) = ⊥
EachIsReadAgain (s ∷ ss) [] = ⊥

abbrev pub AreReadAgain : (shards begin : List ShardState) → Type 0
AreReadAgain [] begin = ⊥
AreReadAgain (s ∷ ss) begin = EachIsReadAgain (s ∷ ss) begin
