-- With which ids a shard begins, and which a step frees and takes. So which id is taken is no choice: it is decided by the number of the start and
-- by the ids that were taken and freed since.
use Rattle.std.specs.Prelude.{◌≡◌, ◌≢◌, ◌↔◌, ℕ, ◌*◌, ◌%◌, List, Option, Some, None, IfSome}
use Rattle.tidalloc.specs.LiveIds.{next_id}
use Rattle.dialogues.specs.Dialogues.{OpenDialogues, dialogues_of, freed, used}

-- The generation after which the ids of a start begin, in each slot (profile). Starts with numbers one after the other begin far from one
-- another, and 4,095 of them at different generations.
abbrev pub first_generation : (start : ℕ) → ℕ
first_generation start = start * 2531 % 4095

-- The dialogue under this id, if any, closes: it is the one that was open and is not open any more.
abbrev pub Closes : (before after : OpenDialogues) → Option (List ℕ) → Type 0
Closes before after closed = (id : List ℕ) → (closed ≡ Some id) ↔ ((dialogues_of before id ≢ None) × (dialogues_of after id ≡ None))

-- The id of the dialogue that closes is free; then the next id is taken, if a dialogue opens.
pub record MovesIds (before : OpenDialogues) (taken : Option (List ℕ)) (after : OpenDialogues) : Type 0 where
  pub closed : Option (List ℕ)
  pub closes : Closes before after closed
  pub shard : after.shard ≡ before.shard
  pub next : IfSome taken (λ id. next_id before.shard (freed closed before.supply) ≡ Some id)
  pub supply : after.supply ≡ used taken (freed closed before.supply)
