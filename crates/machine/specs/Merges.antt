-- One journal made of sixteen.
use Rattle.std.specs.Prelude.{◌≡◌, ℕ, ◌<◌, List, [], ◌∷◌}
use Rattle.machine.specs.Keys.{put_at}
use Rattle.machine.specs.declared.numbers.TheConstants.{SHARDS}
use Rattle.machine.specs.Legal.{Entry}

-- The merge has the entries of the sixteen journals, each journal's in their order.
abbrev pub Merges : (ℕ → List Entry) → List Entry → Type 0
Merges journals [] = (n : ℕ) → n < SHARDS → journals n ≡ []
Merges journals (entry ∷ merge) =
    (n : ℕ) × (rest : List Entry) × (n < SHARDS) × (journals n ≡ entry ∷ rest) × Merges (put_at journals n rest) merge
