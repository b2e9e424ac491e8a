-- A plan for an event that names no open dialogue, as a step of the machine has it.
use Rattle.std.proofs.Common.{◌≡◌, ◌∙◌, ℕ, List, [], Option, Some, None, is_some, IsTrue, refl, sym, ap, subst}
use Rattle.std.specs.Prelude.{IfSome, option_map, option_copied}
use Rattle.std.specs.Borrow.{Bor}
use Rattle.records.specs.Subscriber.{Subscriber, AreAllowed}
use Rattle.machine.specs.Events.{Change, Withdraw}
use Rattle.machine.specs.Received.{Component}
use Rattle.machine.specs.State.{Local}
use Rattle.machine.specs.Begins.{begins}
use Rattle.machine.specs.Changes.{changes}
use Rattle.machine.specs.Routing.{subject_of_begin}
use Rattle.machine.specs.Turns.{Turn, Begins, Changes, concern, named}
use Rattle.machine.specs.Step.{if_known, known_in, outcome_in, seen, subject_of}
use Rattle.machine_laws.proofs.Refusing.{begins_opens}
use Rattle.smroute.specs.Seen.{machine_subscriber}
use Rattle.dialogues.specs.Dialogues.{IsNew, next_of}
use Rattle.location.specs.declared.outcome.After.TheVariants.{NewCodes}
use Rattle.location.specs.declared.outcome.Outcome.{Outcome}
use Rattle.location.specs.declared.outcome.DialogueChange.{DialogueChange}
use Rattle.location.specs.declared.outcome.DialogueChange.TheVariants.{Closes, Opens, GoesOn, Forgets}
use Rattle.location.specs.Seen.{known, opens_of, outcome_of}
use Rattle.location.specs.Writing.{CanBeWritten}
use Rattle.hlrcore.specs.declared.plan.Plan.{Plan}
use Rattle.hlrcore.specs.Plans.{CanSettle, IsOpening}
use Rattle.hlrcore.specs.Shards.{ShardState, directory_of, record_at, state_of}
use Rattle.hlrcore.specs.Planning.{IsPlan}
use Rattle.hlrcore.specs.Unnamed.{known_imsi, unnamed_plan}
use Rattle.hlrcore.proofs.SeenLemmas.{clock_seen, imsi_seen, none_allowed, record_seen, record_there}

own_here : (s : ShardState) (c : Option (List ℕ)) (found : Option (Bor Subscriber)) → IfSome found (λ f. c ≡ Some f.now.imsi)
    → IfSome found (λ f. f.now.imsi ≡ (seen (state_of s) s.shard c).imsi)
own_here s c None own = tt
own_here s None (Some f) own = absurd cc
own_here s (Some x) (Some f) own = let same : x ≡ f.now.imsi = cc in sym same ∙ imsi_seen s x

-- the subject
subject_is : (s : ShardState) (c : Option (List ℕ)) (found : Option (Bor Subscriber)) → option_copied found ≡ record_at s.records c
    → IfSome found (λ f. c ≡ Some f.now.imsi)
    → known_imsi found ≡ known_in (state_of s) c
unfolding state_of
subject_is s None None is own = refl
subject_is s None (Some f) is own = absurd cc
subject_is s (Some x) None is own = ap (λ o. if_known x (option_map machine_subscriber o)) is
subject_is s (Some x) (Some f) is own = sym own ∙ ap (λ o. if_known x (option_map machine_subscriber o)) is

-- ---- what opens

opens_some : (clock : ℕ) (stays : DialogueChange) → IsOpening stays → IsTrue (is_some (opens_of clock stays))
opens_some clock Closes h = absurd h
opens_some clock (Opens opening) h = refl
opens_some clock (GoesOn left) h = absurd h
opens_some clock (Forgets invoke) h = absurd h

nobody_known : (s : ShardState) (c : Option (List ℕ)) → c ≡ None → IsTrue (is_some (seen (state_of s) s.shard c).record_of) → ⊥
nobody_known s None e h = let none = record_there s None in cc
nobody_known s (Some x) e h = absurd cc

-- ---- the plans

module _ (s : ShardState) (imsi : Option (List ℕ)) (found : Option (Bor Subscriber)) (new : List ℕ) (codes : List ℕ) (outcome : Outcome) (plan : Plan)
    (plan_is : plan ≡ unnamed_plan imsi found new codes outcome)
    (found_is : option_copied found ≡ record_at s.records imsi)
    (own : IfSome found (λ f. imsi ≡ Some f.now.imsi))
    (next : IfSome (next_of s.dialogues) (λ id. (id ≡ new) × IsNew s.dialogues id))
    (writable : CanBeWritten outcome.after (option_copied found)) where
  abbrev here : Local
  here = seen (state_of s) s.shard imsi

  can_settle : (outcome.after ≡ NewCodes → AreAllowed codes) → (imsi ≡ None → IsOpening outcome.dialogue → ⊥)
      → CanSettle s (unnamed_plan imsi found new codes outcome)
  can_settle allowed concerned = record {
    is_open = tt;
    writable = subst (CanBeWritten outcome.after) found_is writable;
    codes = allowed;
    forgetting = tt;
    next_id = next;
    concerned = λ none. (refl, concerned none);
  }

  -- The plan is what the turn does.
  made : (turn : Turn) → concern (directory_of s.directory) turn ≡ imsi → named turn ≡ None → subject_of (state_of s) turn ≡ known_in (state_of s) imsi
      → (outcome.after ≡ NewCodes → AreAllowed codes) → (imsi ≡ None → IsOpening outcome.dialogue → ⊥)
      → outcome_in (state_of s) s.shard turn new ≡ outcome_of here None codes outcome → IsPlan s turn plan
  made turn concern_is named_is subject allowed concerned leaves = subst (IsPlan s turn) (sym plan_is) (record {
    can = can_settle allowed concerned;
    concern_is = concern_is;
    named_is = named_is;
    leaves = leaves;
    subject_is = subject_is s imsi found found_is own ∙ sym subject;
  })

  -- A Begin.
  pub begin_plan : (from origin : List ℕ) (name : Option (List ℕ)) (cs : List Component) → imsi ≡ subject_of_begin (directory_of s.directory) cs → codes ≡ []
      → ((here : Local) → here.clock ≡ s.clock → IfSome found (λ f. f.now.imsi ≡ here.imsi) → here.record_of ≡ known found
      → outcome_of here None [] outcome ≡ begins here from origin name cs new)
      → IsPlan s (Begins from origin name cs) plan
  unfolding state_of
  begin_plan from origin name cs asked_is none leaves =
      let outcome_here : outcome_of here None [] outcome ≡ begins here from origin name cs new
      = leaves here (clock_seen s imsi) (own_here s imsi found own) (record_seen s imsi found found_is) in
      made (Begins from origin name cs) (sym asked_is) refl (ap (known_in (state_of s)) (sym asked_is)) (λ _. subst AreAllowed (sym none) none_allowed)
      (λ nobody opens. nobody_known s imsi nobody
      (begins_opens here new from origin name cs (sym (ap (λ o. is_some o.opens) outcome_here) ∙ opens_some here.clock outcome.dialogue opens)).known)
      (ap (λ c. begins (seen (state_of s) s.shard c) from origin name cs new) (sym asked_is) ∙ sym outcome_here
      ∙ ap (λ items. outcome_of here None items outcome) (sym none))

  -- An operator's change, of these codes or of none.
  pub change_plan : (x items : List ℕ) (change : Change) → imsi ≡ Some x → codes ≡ items → AreAllowed items
      → ((here : Local) → IfSome found (λ f. f.now.imsi ≡ here.imsi) → here.record_of ≡ known found
      → outcome_of here None items outcome ≡ changes here change (known found) new)
      → IsPlan s (Changes x change) plan
  unfolding state_of
  change_plan x items change imsi_is has allowed leaves =
      let known_is = record_seen s imsi found found_is in
      made (Changes x change) (sym imsi_is) refl (ap (known_in (state_of s)) (sym imsi_is)) (λ _. subst AreAllowed (sym has) allowed) (λ nobody. absurd cc)
      (ap (λ c. changes (seen (state_of s) s.shard c) change (seen (state_of s) s.shard c).record_of new) (sym imsi_is)
      ∙ ap (λ r. changes here change r new) known_is
      ∙ sym (leaves here (own_here s imsi found own) known_is) ∙ ap (λ is. outcome_of here None is outcome) (sym has))

  -- The end of a subscription.
  pub withdrawal_plan : (x : List ℕ) → imsi ≡ Some x → codes ≡ []
      → ((here : Local) → IfSome found (λ f. f.now.imsi ≡ here.imsi) → here.record_of ≡ known found
      → outcome_of here None [] outcome ≡ changes here Withdraw (known found) new)
      → IsPlan s (Changes x Withdraw) plan
  withdrawal_plan x imsi_is none leaves = change_plan x [] Withdraw imsi_is none none_allowed leaves
