-- The timers of a shard are the same in states that agree on the shard.
use Rattle.std.proofs.Common.{◌≡◌, ◌≤◌, ℕ, ℤ, List, Option, Some, None, sym, ap, ◌∙◌, subst}
use Rattle.machine.specs.Deadlines.{HasDue, IsFirst, IsTimer}
use Rattle.machine.specs.Parts.{part}
use Rattle.machine.specs.State.{Dialogue, Invocation, State}
use Rattle.machine.specs.Turns.{IsDue}
use Rattle.machine_laws.proofs.Merging.{part_agrees}
use Rattle.machine_laws.proofs.Parts.{AgreeOn, agree_sym}

pub first_alike : (P Q : ℕ → Type 0) → ((t : ℕ) → P t → Q t) → ((t : ℕ) → Q t → P t) → (o : Option ℕ) → IsFirst P o → IsFirst Q o
first_alike P Q to from None none = λ t q. none t (from t q)
first_alike P Q to from (Some first) is = (to first is.0, λ t q. is.1 t (from t q))

pub timer_alike : (n : ℕ) (S T : State) → AgreeOn n S T → (t : ℕ) → IsTimer S n t → IsTimer T n t
timer_alike n S T agree t is = record {
  id = is.id;
  dialogue = is.dialogue;
  invoke = is.invoke;
  own = is.own;
  of_shard = is.of_shard;
  is_open = agree.dialogues is.id is.of_shard ∙ is.is_open;
  stands = is.stands;
  deadline_is = is.deadline_is;
}

pub due_alike : (n : ℕ) (S T : State) → AgreeOn n S T → HasDue S n → HasDue T n
due_alike n S T agree (i, d, j, v, due) = (
  i,
  d,
  j,
  v,
  record {
    of_shard = due.of_shard;
    is_open = agree.dialogues i due.of_shard ∙ due.is_open;
    stands = due.stands;
    due = subst (λ (t : ℕ). v.deadline ≤ t) (sym agree.clock) due.due;
  },
)

-- what is due is a timer
pub due_timer : (S : State) (n : ℕ) (i : List ℕ) (d : Dialogue) (j : ℤ) (v : Invocation) → IsDue S n i d j v → IsTimer S n v.deadline
due_timer S n i d j v due = record {
  id = i;
  dialogue = d;
  invoke = j;
  own = v;
  of_shard = due.of_shard;
  is_open = due.is_open;
  stands = due.stands;
  deadline_is = λ _. v.deadline;
}

-- and a timer that has come is due
pub timer_due : (S : State) (n t : ℕ) → IsTimer S n t → t ≤ S.clocks n → HasDue S n
timer_due S n t is come = (
  is.id,
  is.dialogue,
  is.invoke,
  is.own,
  record {
    of_shard = is.of_shard;
    is_open = is.is_open;
    stands = is.stands;
    due = subst (λ (k : ℕ). k ≤ S.clocks n) (sym is.deadline_is) come;
  },
)
