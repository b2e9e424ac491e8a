-- By how many workers a script is handled (profile).
use Rattle.std.specs.Prelude.{ℕ, ◌*◌, Bool, List, length, nat_le, if◌then◌else◌}
use Rattle.std.specs.List.{list_any}
use Rattle.texts.specs.Lines.{lines}
use Rattle.workers.specs.declared.lot.TheConstants.{JOBS_OF_A_START}
use Rattle.hlr_program.specs.Batches.{batches_of}

-- The batch has lines enough for two workers.
abbrev pub is_long : List (List ℕ) → Bool
is_long batch = nat_le (2 * JOBS_OF_A_START) (length batch)

-- As many as are asked for, if some batch of the script has lines enough for two; otherwise none.
abbrev pub workers_for : (asked : ℕ) → (script : List ℕ) → ℕ
workers_for asked script = if list_any is_long (batches_of (lines script)) then asked else 0
