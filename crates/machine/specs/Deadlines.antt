-- The deadlines of a shard's timers, whether they are due or not.
use Rattle.std.specs.Prelude.{◌≡◌, ℕ, ℤ, ◌≤◌, List, Option, Some, None}
use Rattle.machine.specs.Keys.{shard_of_id}
use Rattle.machine.specs.State.{Invocation, Dialogue, State}
use Rattle.machine.specs.Turns.{IsDue, invocation_of}

-- A timer of shard n has this deadline: that of an own invocation of an open dialogue.
pub record IsTimer (S : State) (n : ℕ) (deadline : ℕ) : Type 0 where
  pub id : List ℕ
  pub dialogue : Dialogue
  pub invoke : ℤ
  pub own : Invocation
  pub of_shard : shard_of_id id ≡ n
  pub is_open : S.dialogues id ≡ Some dialogue
  pub stands : invocation_of invoke dialogue.invocations ≡ Some own
  pub deadline_is : own.deadline ≡ deadline

-- The first of these deadlines; `None` if there is none.
abbrev pub IsFirst : (IsOne : ℕ → Type 0) → Option ℕ → Type 0
IsFirst IsOne None = (t : ℕ) → IsOne t → ⊥
IsFirst IsOne (Some first) = IsOne first × ((t : ℕ) → IsOne t → first ≤ t)

-- A timer of shard n is due.
abbrev pub HasDue : State → ℕ → Type 0
HasDue S n = (i : List ℕ) × (d : Dialogue) × (j : ℤ) × (v : Invocation) × IsDue S n i d j v
