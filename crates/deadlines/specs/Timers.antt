-- Deadlines of own invocations (Q.774), as a finite map or as a finite set, and the least that is due.
use Rattle.std.specs.Prelude.{◌≡◌, ◌≢◌, ◌≤◌, ◌<◌, ℕ, ℤ, List, [], ◌∷◌, Some, refl, IsTrue}
use Rattle.std.specs.declared.cmp.Ordering.{Ordering}
use Rattle.std.specs.declared.cmp.Ordering.TheVariants.{Less}
use Rattle.std.specs.Ordering.{nat_cmp, int_cmp, ordering_then}
use Rattle.std.specs.FinMap as map
use Rattle.std.specs.FinSet as set
use Rattle.std.specs.Coded.{Coded, code_by, coded×, coded_ℕ, coded_ℤ, coded_list}
use Rattle.hlr_types.specs.Orders.{octets_cmp}
use Rattle.deadlines.specs.declared.timer.Invocation.{Invocation}
use Rattle.deadlines.specs.declared.timer.Timer.{Timer}

-- The invocation of this id in the dialogue of this local transaction id.
abbrev pub invocation_of : List ℕ → ℤ → Invocation
invocation_of id invoke = record { id = id; invoke = invoke }

-- A deadline of an invocation.
abbrev pub timer_of : ℕ → List ℕ → ℤ → Timer
timer_of deadline id invoke = record { deadline = deadline; invocation = invocation_of id invoke }

-- Invocations are ordered by the octets of the local id, and then by the invoke id as a signed number.
abbrev pub invocation_cmp : Invocation → Invocation → Ordering
invocation_cmp a b = ordering_then (octets_cmp a.id b.id) (int_cmp a.invoke b.invoke)

-- Deadlines are ordered by time, then by invocation.
abbrev pub timer_cmp : Timer → Timer → Ordering
timer_cmp a b = ordering_then (nat_cmp a.deadline b.deadline) (invocation_cmp a.invocation b.invocation)

-- The deadlines: a finite map from invocation to time.
abbrev pub DeadlineMap : Type 0
DeadlineMap = map.FinMap invocation_cmp ℕ

abbrev pub coded_invocation : Coded Invocation
coded_invocation = code_by (List ℕ × ℤ) (coded× (coded_list coded_ℕ) coded_ℤ) (λ i. (i.id, i.invoke)) (λ p. record { id = p.0; invoke = p.1 }) (λ _. refl)

abbrev pub deadline_map_code : Coded DeadlineMap
deadline_map_code = map.code coded_invocation coded_ℕ

-- The timers: a finite set.
abbrev pub TimerSet : Type 0
TimerSet = set.FinSet timer_cmp

abbrev pub coded_timer : Coded Timer
coded_timer = code_by (ℕ × Invocation) (coded× coded_ℕ coded_invocation) (λ t. (t.deadline, t.invocation))
    (λ p. record { deadline = p.0; invocation = p.1 }) (λ _. refl)

abbrev pub timer_set_code : Coded TimerSet
timer_set_code = set.code coded_timer

-- Each of these set in turn; replaces the invocation's old deadline.
abbrev pub set_all : DeadlineMap → List Timer → DeadlineMap
set_all m [] = m
set_all m (t ∷ ts) = set_all (map.insert m t.invocation t.deadline) ts

-- The deadline is in the map.
abbrev pub IsSet : DeadlineMap → Timer → Type 0
IsSet m t = map.get m t.invocation ≡ Some t.deadline

-- The timer is in the set.
abbrev pub IsIn : TimerSet → Timer → Type 0
IsIn s t = IsTrue (set.contains s t)

-- This timer is one of these and due, and no other of them is before it.
pub record IsLeastOf (IsOne : Timer → Type 0) (now : ℕ) (due : Timer) : Type 0 where
  pub one : IsOne due
  pub come : due.deadline ≤ now
  pub least : (t : Timer) → IsOne t → timer_cmp t due ≢ Less

-- None of these timers is due.
abbrev pub NoneDueOf : (Timer → Type 0) → ℕ → Type 0
NoneDueOf IsOne now = (t : Timer) → IsOne t → now < t.deadline

-- The same of the deadlines in a map.
abbrev pub IsLeastDue : DeadlineMap → ℕ → Timer → Type 0
IsLeastDue m now due = IsLeastOf (IsSet m) now due

abbrev pub NoneDue : DeadlineMap → ℕ → Type 0
NoneDue m now = NoneDueOf (IsSet m) now
