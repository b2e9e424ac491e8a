-- The timers of a shard, and whether one is due.
use Rattle.std.proofs.Common.{◌≡◌, ◌≤◌, ℕ, Option, Some, None, cond, eq-eqb, refl, sym, ap, subst, ◌∙◌, arith}
use Rattle.std.specs.Prelude.{◌↔◌}
use Rattle.machine.specs.Deadlines.{HasDue, IsFirst, IsTimer}
use Rattle.machine.specs.State.{State}
use Rattle.machine_laws.proofs.Deadlines.{due_timer, timer_due}
use Rattle.dialogues.specs.Dialogues.{OpenDialogues, dialogues_of}
use Rattle.hlrcore.specs.Shards.{ShardState, state_of}
use Rattle.hlrcore.proofs.ExpiryLemmas.{has_dialogues}

-- the first deadline that the dialogues of a shard have is the shard's
pub first_here : (s : ShardState) (told_in : OpenDialogues) (o : Option ℕ) → told_in ≡ s.dialogues → s.dialogues.shard ≡ s.shard
    → ((S : State) → S.dialogues ≡ dialogues_of told_in → IsFirst (IsTimer S told_in.shard) o) → IsFirst (IsTimer (state_of s) s.shard) o
first_here s told_in o same own told =
    let here : (S : State) → S.dialogues ≡ dialogues_of s.dialogues → IsFirst (IsTimer S s.dialogues.shard) o =
    subst (λ (d : OpenDialogues). (S : State) → S.dialogues ≡ dialogues_of d → IsFirst (IsTimer S d.shard) o) same told in
    subst (λ n. IsFirst (IsTimer (state_of s) n) o) own (here (state_of s) (has_dialogues s own).dialogues)

clock_here : (s : ShardState) → (state_of s).clocks s.shard ≡ s.clock
unfolding state_of
clock_here s = ap (λ b. cond b s.clock 0) (eq-eqb s.shard s.shard refl)

-- the first deadline has come
pub come_due : (s : ShardState) (first now : ℕ) → now ≡ s.clock → IsFirst (IsTimer (state_of s) s.shard) (Some first) → (first ≤ now) ↔ HasDue (state_of s) s.shard
come_due s first now clock is =
    let at : now ≡ (state_of s).clocks s.shard = clock ∙ sym (clock_here s) in (
      λ come. timer_due (state_of s) s.shard first is.0 (subst (λ n. first ≤ n) at come),
      λ (i, d, j, v, due).
          let least : first ≤ v.deadline = is.1 v.deadline (due_timer (state_of s) s.shard i d j v due) in
          let come : v.deadline ≤ now = subst (λ n. v.deadline ≤ n) (sym at) due.due in
          omega (arith, least, come),
    )

-- there is no timer
pub none_come : (s : ShardState) → IsFirst (IsTimer (state_of s) s.shard) None → HasDue (state_of s) s.shard → ⊥
none_come s none (i, d, j, v, due) = none v.deadline (due_timer (state_of s) s.shard i d j v due)
