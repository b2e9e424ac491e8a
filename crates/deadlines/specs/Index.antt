-- The two indexes that the deadlines stand in.
use Rattle.std.specs.Prelude.{◌≡◌, ℕ, Bool, true, false, cond, List, [], ◌∷◌, Option, Some, None, ◌⊎◌}
use Rattle.std.specs.BTreeMap as tree
use Rattle.std.specs.FinSet as set
use Rattle.deadlines.specs.declared.timer.Invocation.{Invocation}
use Rattle.deadlines.specs.declared.timer.Timer.{Timer}
use Rattle.deadlines.specs.Timers.{TimerSet, invocation_cmp, timer_cmp}

-- The deadline of an invocation.
abbrev pub deadline_of : tree.BTreeMap Invocation ℕ → Invocation → Option ℕ
deadline_of m k = tree.get invocation_cmp m k

-- Whether the index by time has this deadline.
abbrev pub has : TimerSet → Timer → Bool
has s t = set.contains s t

-- Whether two invocations are the same.
abbrev pub is_invocation : Invocation → Invocation → Bool
is_invocation k q = tree.is_at (invocation_cmp k) q

abbrev pub is_timer : Timer → Timer → Bool
is_timer t u = tree.is_at (timer_cmp t) u

-- The index by time has the deadlines of the map and no others except stale ones. Both are seen as functions.
pub record IsIndexBut (stale : Timer → Bool) (M : Invocation → Option ℕ) (S : Timer → Bool) : Type 0 where
  pub all : (t : Timer) → M t.invocation ≡ Some t.deadline → S t ≡ true
  pub only : (t : Timer) → S t ≡ true → (M t.invocation ≡ Some t.deadline) ⊎ (stale t ≡ true)

-- The index by time has the deadlines of the map and no others.
pub record IsIndex (M : Invocation → Option ℕ) (S : Timer → Bool) : Type 0 where
  pub all : (t : Timer) → M t.invocation ≡ Some t.deadline → S t ≡ true
  pub only : (t : Timer) → S t ≡ true → M t.invocation ≡ Some t.deadline

-- The deadline of an invocation after these are set in turn.
abbrev pub deadline_after : List Timer → Invocation → Option ℕ → Option ℕ
deadline_after [] q before = before
deadline_after (t ∷ ts) q before = deadline_after ts q (cond (is_invocation t.invocation q) (Some t.deadline) before)

-- This is the invocation's old deadline.
abbrev pub was : Option ℕ → Invocation → Timer → Bool
was None k t = false
was (Some deadline) k t = is_timer (record { deadline = deadline; invocation = k }) t
