-- The least timer that is due is that of the machine.
use Rattle.std.proofs.Common.{◌≡◌, ◌≢◌, ◌≤◌, ℕ, ℤ, List, Option, Some, None, refl, sym, ap, ◌∙◌, subst}
use Rattle.std.specs.Option.{option_map, IfSome, IfNone}
use Rattle.machine.specs.State.{Dialogue, Invocation, State, Transaction, Was}
use Rattle.machine.specs.Turns.{Expires, Expiry, IsDue, NoneDue, OneDue, invocation_of}
use Rattle.tsl.specs.Transactions.{OpenTransactions, at}
use Rattle.csl.specs.declared.offer.Due.{Due}
use Rattle.csl.specs.Expiring as csl
use Rattle.csl.specs.Seen.{was}
use Rattle.csl.specs.Tables.{InvocationLists, invocations_at}
use Rattle.dialogues.specs.declared.talk.Talk.{Talk}
use Rattle.dialogues.specs.Dialogues.{dialogues_of}
use Rattle.dialogues.specs.Expiring.{HasDialogues, expiry_of, expiry_turn}
use Rattle.dialogues.specs.Joined.{dialogue_at, joined, AreTied}
use Rattle.dialogues.proofs.JoinLemmas.{dialogues-joined}
use Rattle.dialogues.proofs.NewIdLemmas.{machine_id}

module _ (t : OpenTransactions) (lists : InvocationLists) (talks : List Talk) (tied : AreTied t lists talks) where
  -- if there is an invocation, a transaction is open
  pub standing_open : (i : List ℕ) (j : ℤ) (v : Invocation) → invocation_of j (invocations_at lists i) ≡ Some v → at t i ≢ None
  standing_open i j v stands none =
      let gone : None ≡ Some v = sym (ap (invocation_of j) (tied.only_open i none)) ∙ stands in cc

  pub some_open : (i : List ℕ) → at t i ≢ None → (s : Transaction) × (at t i ≡ Some s)
  some_open i some = by (at t i) refl
    where
      by : (o : Option Transaction) → at t i ≡ o → (s : Transaction) × (at t i ≡ Some s)
      by None e = absurd (some e)
      by (Some s) e = (s, e)

  pub open_as : (i : List ℕ) (s : Transaction) → at t i ≡ Some s → dialogues_of (joined t lists talks) i ≡ Some (dialogue_at lists talks i s)
  open_as i s there = dialogues-joined t lists talks i ∙ ap (option_map (dialogue_at lists talks i)) there

  module _ (S : State) (now : ℕ) (has : HasDialogues S (joined t lists talks) now) where
    due_in : (i : List ℕ) (j : ℤ) (v : Invocation) (s : Transaction) → at t i ≡ Some s → csl.IsDue lists now i j v
        → IsDue S t.shard i (dialogue_at lists talks i s) j v
    due_in i j v s there due = record {
      of_shard = (machine_id t.shard i (tied.of_shard i (standing_open i j v due.stands))).shard;
      is_open = ap (λ D. D i) has.dialogues ∙ open_as i s there;
      stands = due.stands;
      due = subst (λ n. v.deadline ≤ n) (sym has.clock) due.due;
    }

    due_from : (i : List ℕ) (d : Dialogue) (j : ℤ) (v : Invocation) → IsDue S t.shard i d j v → csl.IsDue lists now i j v
    due_from i d j v due = record {
      stands = ap (invocation_of j) (sym (by (at t i) (sym (dialogues-joined t lists talks i) ∙ sym (ap (λ D. D i) has.dialogues) ∙ due.is_open))) ∙ due.stands;
      due = subst (λ n. v.deadline ≤ n) has.clock due.due;
    }
      where
        by : (o : Option Transaction) → option_map (dialogue_at lists talks i) o ≡ Some d → d.invocations ≡ invocations_at lists i
        by None e = cc
        by (Some s) e = let same : dialogue_at lists talks i s ≡ d = cc in sym (ap (λ (x : Dialogue). x.invocations) same)

    one_due : (due : Due) → csl.IsNext lists now due.id due.invoke (was due.was) → Expiry S t.shard (expiry_of (dialogues_of (joined t lists talks) due.id) due)
    one_due due next =
        let open_one = some_open due.id (standing_open due.id due.invoke next.own next.due.stands) in
        let d = dialogue_at lists talks due.id open_one.0 in
        OneDue due.id d due.invoke next.own (due_in due.id due.invoke next.own open_one.0 open_one.1 next.due)
        (λ i' d' j' v' is. next.least i' j' v' (due_from i' d' j' v' is))
        (ap (λ o. expiry_of o due) (open_as due.id open_one.0 open_one.1) ∙ ap (λ (w : Was). Expires due.id d due.invoke w) (sym next.state))

    pub expiry_told : (o : Option Due) → IfSome o (λ due. csl.IsNext lists now due.id due.invoke (was due.was)) → IfNone o (csl.NoneDue lists now)
        → Expiry S t.shard (expiry_turn (joined t lists talks) o)
    expiry_told None some none = NoneDue (λ i d j v is. none i j v (due_from i d j v is)) refl
    expiry_told (Some due) some none = one_due due some

  pub due_is_open : (now : ℕ) (o : Option Due) → IfSome o (λ due. csl.IsNext lists now due.id due.invoke (was due.was))
      → IfSome o (λ due. dialogues_of (joined t lists talks) due.id ≢ None)
  due_is_open now None next = tt
  due_is_open now (Some due) next =
      let open_one = some_open due.id (standing_open due.id due.invoke next.own next.due.stands) in
      λ none. let gone : None ≡ Some (dialogue_at lists talks due.id open_one.0) = sym none ∙ open_as due.id open_one.0 open_one.1 in cc
