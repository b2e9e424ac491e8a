-- Which timer expires next, and what happens to its invocation (Q.774).
use Rattle.std.specs.Prelude.{◌≡◌, ℕ, ℤ, ◌≤◌, List, false, Some}
use Rattle.std.specs.Ordering.{is_gt}
use Rattle.machine.specs.Expiries.{without}
use Rattle.machine.specs.Invocations.{Reply, TimesOut, invocation}
use Rattle.machine.specs.Rows.{standing_of}
use Rattle.machine.specs.State.{Was, Invocation}
use Rattle.machine.specs.Turns.{invocation_of, triple_cmp}
use Rattle.csl.specs.Tables.{InvocationLists, invocations_at, put_list}

-- The deadline of the invocation j of the dialogue i is not after the clock.
pub record IsDue (lists : InvocationLists) (now : ℕ) (i : List ℕ) (j : ℤ) (v : Invocation) : Type 0 where
  pub stands : invocation_of j (invocations_at lists i) ≡ Some v
  pub due : v.deadline ≤ now

-- It is due and in this state, and nothing that is due comes before it: by deadline, then by local id as octets, then by
-- invoke id as a signed number.
pub record IsNext (lists : InvocationLists) (now : ℕ) (i : List ℕ) (j : ℤ) (was : Was) : Type 0 where
  pub own : Invocation
  pub due : IsDue lists now i j own
  pub state : own.was ≡ was
  pub least : (i' : List ℕ) (j' : ℤ) (v : Invocation) → IsDue lists now i' j' v → is_gt (triple_cmp own.deadline i j v.deadline i' j') ≡ false

-- Nothing is due.
abbrev pub NoneDue : InvocationLists → ℕ → Type 0
NoneDue lists now = (i : List ℕ) (j : ℤ) (v : Invocation) → IsDue lists now i j v → ⊥

-- The next one times out, by its row of the table of own invocations, and no other changes.
pub record Expires (old new : InvocationLists) (now : ℕ) (i : List ℕ) (j : ℤ) (was : Was) : Type 0 where
  pub next : IsNext old now i j was
  pub after : new ≡ put_list old i (without j (invocations_at old i))
  pub reply : Reply
  pub row : invocation (standing_of j (invocations_at old i)) TimesOut now ≡ Some (standing_of j (invocations_at new i), reply)
