-- The first deadline, whether it is due or not.
use Rattle.std.specs.Prelude.{◌≡◌, ◌≤◌, ℕ, Option, Some, None}
use Rattle.deadlines.specs.declared.timer.Timer.{Timer}

-- No timer of these is before it, and one has it; `None` if there is no timer.
abbrev pub IsFirst : (IsOne : Timer → Type 0) → Option ℕ → Type 0
IsFirst IsOne None = (t : Timer) → IsOne t → ⊥
IsFirst IsOne (Some deadline) =
    ((t : Timer) × IsOne t × (t.deadline ≡ deadline)) × ((t : Timer) → IsOne t → deadline ≤ t.deadline)
