-- Worked examples of the id that a step takes, in shard 3.
use Rattle.std.specs.Prelude.{◌≡◌, ℕ, List, [], ◌∷◌, Some, None}
use Rattle.std.specs.FinMap as map
use Rattle.hlr_types.specs.Orders.{octets_cmp}
use Rattle.machine.specs.State.{Dialogue}
use Rattle.tidalloc.specs.LiveIds.{Supply, unused}
use Rattle.dialogues.specs.Dialogues.{OpenDialogues, dialogues_of}
use Rattle.hlrcore.specs.Ids.{MovesIds}

-- the first id of slot 0, and that of slot 1
abbrev pub first_id : List ℕ
first_id = 3 ∷ 0 ∷ 16 ∷ 0 ∷ []

abbrev pub second_id : List ℕ
second_id = 3 ∷ 0 ∷ 16 ∷ 1 ∷ []

abbrev pub dialogues_with : Supply → map.FinMap octets_cmp Dialogue → OpenDialogues
dialogues_with supply open_ones = record { shard = 3; supply = supply; open_ones = open_ones }

-- The first dialogue of a shard opens under the id that was next before the step, and under no other.
pub record FirstIds : Type 0 where
  pub first : (d : Dialogue)
      → MovesIds (dialogues_with (unused 0) map.empty) (Some first_id)
      (dialogues_with (record { first = 0; generations = 1 ∷ []; free = [] }) (map.insert map.empty first_id d))
  pub alone : (before after : OpenDialogues) (id : List ℕ) → before.shard ≡ 3 → before.supply ≡ unused 0
      → ((other : List ℕ) → dialogues_of before other ≡ None) → MovesIds before (Some id) after → id ≡ first_id
  pub not_second : (before after : OpenDialogues) → before.shard ≡ 3 → before.supply ≡ unused 0
      → ((other : List ℕ) → dialogues_of before other ≡ None) → MovesIds before (Some second_id) after → ⊥
