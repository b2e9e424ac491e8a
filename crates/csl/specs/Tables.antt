-- The own invocations of a shard's dialogues (Q.774), as a finite map from local transaction ids to lists by ascending invoke
-- id.
use Rattle.std.specs.Prelude.{◌≡◌, ◌≢◌, ℕ, ℤ, ◌∷◌, [], List, Bool, true, false, cond, Option, Some, None, IfSome, refl, map, int_lt, ◌+◌, ◌/◌, ◌%◌, ◌==◌, pos, not, ◌&&◌}
use Rattle.std.specs.List.{list_any}
use Rattle.std.specs.Ordering.{int_eq}
use Rattle.std.specs.BTreeMap.{is_at}
use Rattle.std.specs.FinMap as finite
use Rattle.std.specs.HashMap.{HashMap}
use Rattle.std.specs.Coded.{Coded, code_by, coded×, coded_ℕ, coded_ℤ, coded_bool, coded_list}
use Rattle.smallvec.specs.SmallVec.{SmallVec}
use Rattle.hlr_types.specs.Orders.{octets_cmp}
use Rattle.machine.specs.State.{Was, OperationSent, WaitForReject, Invocation, is_sent}
use Rattle.machine.specs.Effect.{AreRising}
use Rattle.machine.specs.Outcome.{below, invoked}
use Rattle.deadlines.specs.declared.timer.Timer.{Timer}
use Rattle.deadlines.specs.Timers.{TimerSet, timer_of}
use Rattle.deadlines.specs.Index.{has}

-- The lists of the dialogues that have an invocation.
abbrev pub InvocationLists : Type 0
InvocationLists = finite.FinMap octets_cmp (List Invocation)

-- The invocations of a dialogue: none if it is not in the map.
abbrev pub list_in : Option (List Invocation) → List Invocation
list_in None = []
list_in (Some vs) = vs

abbrev pub invocations_at : InvocationLists → List ℕ → List Invocation
invocations_at lists id = list_in (finite.get lists id)

-- The same with these as the invocations of one dialogue.
abbrev pub put_list : InvocationLists → List ℕ → List Invocation → InvocationLists
put_list lists id [] = finite.remove lists id
put_list lists id (v ∷ vs) = finite.insert lists id (v ∷ vs)

-- With one more, at its place by ascending ids.
abbrev pub with_one : Invocation → List Invocation → List Invocation
with_one own [] = own ∷ []
with_one own (v ∷ vs) = cond (int_lt own.id v.id) (own ∷ v ∷ vs) (v ∷ with_one own vs)

-- The first invocations of a dialogue, all invoked at once: the id 1 and n more.
abbrev pub first_invoked : ℕ → ℕ → List Invocation
first_invoked now further = invoked now (pos 1) ∷ map (λ k. invoked now (pos (k + 2))) (below further)

-- ---- timers

-- The timer of an invocation of a dialogue.
abbrev pub timer_at : List ℕ → Invocation → Timer
timer_at id v = timer_of v.deadline id v.id

-- Whether the invocation has this invoke id and this deadline.
abbrev pub is_timed : ℤ → ℕ → Invocation → Bool
is_timed id deadline v = int_eq v.id id && (v.deadline == deadline)

-- Whether one of these has.
abbrev pub has_timer : List Invocation → ℤ → ℕ → Bool
has_timer vs id deadline = list_any (is_timed id deadline) vs

-- The timers are those of the invocations in the lists.
abbrev pub HaveTimers : InvocationLists → TimerSet → Type 0
HaveTimers lists timers = (t : Timer) → has timers t ≡ has_timer (invocations_at lists t.invocation.id) t.invocation.invoke t.deadline

-- Whether it is the timer of one of these invocations of the dialogue.
abbrev pub is_of : List ℕ → List Invocation → Timer → Bool
is_of id these t = is_at (octets_cmp id) t.invocation.id && has_timer these t.invocation.invoke t.deadline

-- And of none of those others.
abbrev pub is_only : List ℕ → (these others : List Invocation) → Timer → Bool
is_only id these others t = is_of id these t && not (has_timer others t.invocation.invoke t.deadline)

-- ---- what is stored

-- The octets of which a key of the hash map is made, the lowest first.
abbrev pub octets_of : ℕ → List ℕ
octets_of key = key % 256 ∷ key / 256 % 256 ∷ key / 256 / 256 % 256 ∷ key / 256 / 256 / 256 ∷ []

-- The lists, as a hash map has them.
abbrev pub items_of : ℕ × SmallVec Invocation → List ℕ × List Invocation
items_of e = (octets_of e.0, e.1.items)

abbrev pub lists_of : {S : Type 0} → HashMap ℕ (SmallVec Invocation) S → InvocationLists
lists_of m = finite.from_entries (map items_of m.entries)

-- A stored list is not empty, and its ids ascend.
pub record IsStored (vs : List Invocation) : Type 0 where
  pub some : vs ≢ []
  pub rising : AreRising vs

abbrev pub AreStored : InvocationLists → Type 0
AreStored lists = (id : List ℕ) → IfSome (finite.get lists id) IsStored

-- ---- codes

abbrev pub was_of : Bool → Was
was_of true = OperationSent
was_of false = WaitForReject

abbrev pub was_kept : (w : Was) → was_of (is_sent w) ≡ w
was_kept OperationSent = refl
was_kept WaitForReject = refl

abbrev pub coded_invocation : Coded Invocation
coded_invocation =
    code_by (ℤ × (Bool × ℕ)) (coded× coded_ℤ (coded× coded_bool coded_ℕ))
    (λ v. (v.id, (is_sent v.was, v.deadline))) (λ p. record { id = p.0; was = was_of p.1.0; deadline = p.1.1 })
    (λ v i. record { id = v.id; was = was_kept v.was i; deadline = v.deadline })

abbrev pub lists_code : Coded InvocationLists
lists_code = finite.code (coded_list coded_ℕ) (coded_list coded_invocation)
