-- Consecutive epochs: the journal of a shard, cut into pieces.
use Rattle.std.specs.Prelude.{ℕ, List, [], ◌∷◌, ◌++◌}
use Rattle.machine.specs.State.{State}
use Rattle.machine.specs.Legal.{Entry, Legal}

-- a piece of the journal, with the state it begins in
pub record Epoch : Type 0 where
  pub base : State
  pub entries : List Entry

-- the state in which the epochs begin; if there are none, the shard's own base
abbrev pub first_base : List Epoch → State → State
first_base [] base = base
first_base (epoch ∷ epochs) base = epoch.base

-- Each epoch's journal is legal from its base to the next base, the last one to the base of the shard.
abbrev pub Chain : ℕ → List Epoch → State → Type 0
Chain n [] base = Unit {0}
Chain n (epoch ∷ epochs) base = Legal n epoch.base epoch.entries (first_base epochs base) × Chain n epochs base

-- the journals of the epochs, one after the other
abbrev pub joined : List Epoch → List Entry
joined [] = []
joined (epoch ∷ epochs) = epoch.entries ++ joined epochs
