-- The first timer is that of the machine.
use Rattle.std.proofs.Common.{◌≡◌, ℕ, List, Option, Some, None, sym, ap, ◌∙◌}
use Rattle.std.specs.Option.{option_map}
use Rattle.machine.specs.Deadlines.{IsFirst, IsTimer}
use Rattle.machine.specs.State.{Dialogue, State, Transaction}
use Rattle.machine.specs.Turns.{invocation_of}
use Rattle.machine_laws.proofs.Deadlines.{first_alike}
use Rattle.tsl.specs.Transactions.{OpenTransactions, at}
use Rattle.csl.specs.First.{IsTimerOf}
use Rattle.csl.specs.Tables.{InvocationLists, invocations_at}
use Rattle.dialogues.specs.declared.talk.Talk.{Talk}
use Rattle.dialogues.specs.Dialogues.{dialogues_of}
use Rattle.dialogues.specs.Joined.{dialogue_at, joined, AreTied}
use Rattle.dialogues.proofs.DueLemmas.{open_as, some_open, standing_open}
use Rattle.dialogues.proofs.JoinLemmas.{dialogues-joined}
use Rattle.dialogues.proofs.NewIdLemmas.{machine_id}

module _ (t : OpenTransactions) (lists : InvocationLists) (talks : List Talk) (tied : AreTied t lists talks) (S : State)
    (same : S.dialogues ≡ dialogues_of (joined t lists talks)) where
  timer_in : (deadline : ℕ) → IsTimerOf lists deadline → IsTimer S t.shard deadline
  timer_in deadline is =
      let some = standing_open t lists talks tied is.id is.invoke is.own is.stands in
      let open_one = some_open t lists talks tied is.id some in
      record {
        id = is.id;
        dialogue = dialogue_at lists talks is.id open_one.0;
        invoke = is.invoke;
        own = is.own;
        of_shard = (machine_id t.shard is.id (tied.of_shard is.id some)).shard;
        is_open = ap (λ D. D is.id) same ∙ open_as t lists talks tied is.id open_one.0 open_one.1;
        stands = is.stands;
        deadline_is = is.deadline_is;
      }

  timer_from : (deadline : ℕ) → IsTimer S t.shard deadline → IsTimerOf lists deadline
  timer_from deadline is = record {
    id = is.id;
    invoke = is.invoke;
    own = is.own;
    stands =
        ap (invocation_of is.invoke)
        (sym (by (at t is.id) (sym (dialogues-joined t lists talks is.id) ∙ sym (ap (λ D. D is.id) same) ∙ is.is_open))) ∙ is.stands;
    deadline_is = is.deadline_is;
  }
    where
      by : (o : Option Transaction) → option_map (dialogue_at lists talks is.id) o ≡ Some is.dialogue
          → is.dialogue.invocations ≡ invocations_at lists is.id
      by None e = cc
      by (Some s) e =
          let made : dialogue_at lists talks is.id s ≡ is.dialogue = cc in sym (ap (λ (x : Dialogue). x.invocations) made)

  pub first_told : (o : Option ℕ) → IsFirst (IsTimerOf lists) o → IsFirst (IsTimer S t.shard) o
  first_told o is = first_alike (IsTimerOf lists) (IsTimer S t.shard) timer_in timer_from o is
