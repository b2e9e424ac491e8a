-- What no image changes.
use Rattle.std.specs.Prelude.{List, [], ◌∷◌}
use Rattle.hlrcore.specs.Shards.{IsSameShard, ShardState}

-- There are as many shards, and each in turn has the number, the directory and the HLR number that it had.
abbrev pub AreSameShards : (before after : List ShardState) → Type 0
AreSameShards [] [] = Unit {0}
AreSameShards (s ∷ ss) (t ∷ ts) = IsSameShard s t × AreSameShards ss ts
AreSameShards [] (t ∷ ts) = ⊥
AreSameShards (s ∷ ss) [] = ⊥
