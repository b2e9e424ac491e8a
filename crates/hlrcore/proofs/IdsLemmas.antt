-- Which ids a step frees and takes.
use Rattle.std.proofs.Common.{◌≡◌, ◌≢◌, ◌↔◌, ℕ, max, min, List, [], Option, Some, None, refl, sym, ap, ◌∙◌, subst, inl, inr}
use Rattle.std.specs.Prelude.{IfSome, option_map}
use Rattle.machine.specs.Keys.{put}
use Rattle.machine.specs.State.{Dialogue}
use Rattle.machine.specs.Step.{named_stays}
use Rattle.machine_laws.proofs.Keys.{cases_same, put-at, put-other, some_inj}
use Rattle.tidalloc.specs.LiveIds.{after_taking, next_id}
use Rattle.dialogues.specs.Dialogues.{KeepsIds, OpenDialogues, activated, dialogues_of, freed}
use Rattle.hlrcore.specs.declared.answer.StepAnswer.{StepAnswer}
use Rattle.hlrcore.specs.declared.plan.Named.{Named}
use Rattle.hlrcore.specs.declared.plan.Named.TheVariants.{Nothing, Open, Continued}
use Rattle.machine.specs.Sent.{Out}
use Rattle.hlrcore.specs.Answers.{Says}
use Rattle.hlrcore.specs.Changing.{named_among}
use Rattle.hlrcore.specs.Ids.{MovesIds}
use Rattle.hlrcore.specs.Plans.{id_of}
use Rattle.hlrcore.specs.Shards.{ShardState}
use Rattle.machine.specs.declared.numbers.TheConstants.{MAX_CLOCK}

-- ---- no id moves

some_stays : {X : Type 0} (f : X → X) (o : Option X) → o ≢ None → option_map f o ≡ None → ⊥
some_stays f None some none = some refl
some_stays f (Some x) some none = cc

-- the same dialogues are open, under the same ids
pub stay : (before after : OpenDialogues) → KeepsIds before after
    → ((id : List ℕ) → dialogues_of before id ≢ None → dialogues_of after id ≢ None) → MovesIds before None after
stay before after kept open_still = record {
  closed = None;
  closes = λ id. ((λ e. absurd (let none : None ≡ Some id = e in cc)), (λ gone. absurd (open_still id gone.0 gone.1)));
  next = tt;
  shard = kept.shard;
  supply = kept.supply;
}

pub nothing_moves : (d : OpenDialogues) → MovesIds d None d
nothing_moves d = stay d d (record { shard = refl; supply = refl }) (λ id some. some)

-- an answer that goes with no change
pub says_nothing : (d : OpenDialogues) (a : StepAnswer) (subject : Option (List ℕ)) (sent : List Out) → Says a None subject sent → MovesIds d a.id d
says_nothing d a subject sent says = subst (λ o. MovesIds d o d) (sym says.id_is) (nothing_moves d)

-- a clock value
pub ticks_move_nothing : (s t : ShardState) (now : ℕ) (a : StepAnswer) → t ≡ record s { clock = max s.clock (min now MAX_CLOCK) } → Says a None None []
    → MovesIds s.dialogues a.id t.dialogues
ticks_move_nothing s t now a ticked says =
    subst (λ o. MovesIds s.dialogues o t.dialogues) (sym says.id_is)
    (subst (λ (d : OpenDialogues). MovesIds s.dialogues None d) (ap (λ (u : ShardState). u.dialogues) (sym ticked)) (nothing_moves s.dialogues))

-- the named dialogue goes on
module _ (before after : OpenDialogues) (kept : KeepsIds before after) (f : Dialogue → Dialogue) where
  at_named : (id : List ℕ) (o : Option Dialogue) → dialogues_of after ≡ put (dialogues_of before) id o
      → (dialogues_of before id ≢ None → o ≢ None) → MovesIds before None after
  at_named id o is some = stay before after kept (λ q here. elim (cases_same id q) [
    | inl e ↦ λ none. some (λ n. here (ap (dialogues_of before) (sym e) ∙ n)) (sym (put-at (dialogues_of before) id o q e) ∙ ap (λ d. d q) (sym is) ∙ none)
    | inr other ↦ λ none. here (sym (put-other (dialogues_of before) id o q other) ∙ ap (λ d. d q) (sym is) ∙ none)
  ])

  pub named_goes_on : (named : Named)
      → dialogues_of after ≡ named_stays (id_of named) (option_map f (named_among named (dialogues_of before))) (dialogues_of before)
      → MovesIds before None after
  named_goes_on Nothing is = stay before after kept (λ q here none. here (ap (λ d. d q) (sym is) ∙ none))
  named_goes_on (Open id) is = at_named id _ is (λ here. some_stays f (dialogues_of before id) here)
  named_goes_on (Continued id peer remote) is =
      at_named id _ is (λ here none. twice (dialogues_of before id) here none)
    where
      twice : (o : Option Dialogue) → o ≢ None → option_map f (option_map (activated peer remote) o) ≡ None → ⊥
      twice None some none = some refl
      twice (Some d) some none = cc

-- ---- the named dialogue closes

pub named_closes : (before after : OpenDialogues) (place : Option (List ℕ)) → IfSome place (λ id. dialogues_of before id ≢ None)
    → dialogues_of after ≡ named_stays place None (dialogues_of before) → after.shard ≡ before.shard
    → after.supply ≡ freed place before.supply → MovesIds before None after
named_closes before after None open_there is shard supply =
    stay before after (record { shard = shard; supply = supply }) (λ q here none. here (ap (λ d. d q) (sym is) ∙ none))
named_closes before after (Some p) open_there is shard supply = record {
  closed = Some p;
  closes = λ q. (
    (λ e.
        let same : p ≡ q = some_inj p q _ refl e in (
          (λ none. open_there (ap (dialogues_of before) same ∙ none)),
          ap (λ d. d q) is ∙ put-at (dialogues_of before) p None q same,
        )),
    (λ gone. elim (cases_same p q) [
      | inl e ↦ ap Some e
      | inr other ↦ absurd (gone.0 (sym (put-other (dialogues_of before) p None q other) ∙ ap (λ d. d q) (sym is) ∙ gone.1))
    ]),
  );
  next = tt;
  shard = shard;
  supply = supply;
}

-- ---- a dialogue opens, beside the open ones or in place of one

pub one_opens : (before after : OpenDialogues) (place : Option (List ℕ)) (new : List ℕ) (x : Dialogue) → IfSome place (λ id. dialogues_of before id ≢ None)
    → dialogues_of after ≡ put (named_stays place None (dialogues_of before)) new (Some x) → place ≢ Some new → after.shard ≡ before.shard
    → next_id before.shard (freed place before.supply) ≡ Some new → after.supply ≡ after_taking (freed place before.supply)
    → MovesIds before (Some new) after
one_opens before after place new x open_there is apart shard next supply = record {
  closed = place;
  closes = λ q. elim (cases_same new q) [
    | inl e ↦ (
      (λ at. absurd (apart (at ∙ ap Some (sym e)))),
      (λ gone. absurd (let there : Some x ≡ None = sym (put-at (named_stays place None (dialogues_of before)) new (Some x) q e) ∙ ap (λ d. d q) (sym is) ∙ gone.1 in cc)),
    )
    | inr other ↦ at place open_there q (ap (λ d. d q) is ∙ put-other (named_stays place None (dialogues_of before)) new (Some x) q other)
  ];
  next = next;
  shard = shard;
  supply = supply;
}
  where
    at : (o : Option (List ℕ)) → IfSome o (λ id. dialogues_of before id ≢ None) → (q : List ℕ)
        → dialogues_of after q ≡ named_stays o None (dialogues_of before) q
        → (o ≡ Some q) ↔ ((dialogues_of before q ≢ None) × (dialogues_of after q ≡ None))
    at None there q here = ((λ e. absurd (let none : None ≡ Some q = e in cc)), (λ gone. absurd (gone.0 (sym here ∙ gone.1))))
    at (Some p) there q here = (
      (λ e.
          let same : p ≡ q = some_inj p q _ refl e in (
            (λ none. there (ap (dialogues_of before) same ∙ none)),
            here ∙ put-at (dialogues_of before) p None q same,
          )),
      (λ gone. elim (cases_same p q) [
        | inl e ↦ ap Some e
        | inr other ↦ absurd (gone.0 (sym (put-other (dialogues_of before) p None q other) ∙ sym here ∙ gone.1))
      ]),
    )
