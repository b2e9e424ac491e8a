-- Where a subscriber may roam, as a value.
use Rattle.std.specs.Prelude.{ℕ, List, Option, Some, None}
use Rattle.records.specs.declared.roam.Roam.{Roam}
use Rattle.records.specs.declared.roam.Roam.TheVariants.{Everywhere, Within}

-- The prefixes of the allowed VLR numbers, `None` if all are allowed.
abbrev pub prefixes_of : Roam → Option (List (List ℕ))
prefixes_of Everywhere = None
prefixes_of (Within prefixes) = Some prefixes.value.items
