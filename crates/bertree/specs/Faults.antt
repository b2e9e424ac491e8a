-- What a fault says of the octets.
use Rattle.std.specs.Prelude.{◌≡◌, ℕ, ◌<◌, ◌⊎◌, List, Result, Err}
use Rattle.x690.specs.Tree.{Tree, levels}
use Rattle.x690.specs.Spelling.{Spells}
use Rattle.x690.specs.declared.limits.TheConstants.{MAX_LEVELS}
use Rattle.bertree.specs.declared.fault.TreeFault.{TreeFault}
use Rattle.bertree.specs.declared.fault.TreeFault.TheVariants.{Memory}

-- no tree
abbrev pub SpellsNone : List ℕ → Type 0
SpellsNone octets = (t : Tree) → Spells octets t → ⊥

-- a tree of more levels than are read
abbrev pub SpellsTooDeep : List ℕ → Type 0
SpellsTooDeep octets = (t : Tree) × Spells octets t × (MAX_LEVELS < levels t)

-- refused with this fault, or out of memory
abbrev pub IsRefused : {A : Type 0} → Result A TreeFault → TreeFault → Type 0
IsRefused result fault = (result ≡ Err fault) ⊎ (result ≡ Err Memory)
