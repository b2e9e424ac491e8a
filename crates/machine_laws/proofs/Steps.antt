-- Steps keep sound states sound, and leave each open dialogue that the event does not name.
use Rattle.std.proofs.Common.{◌≡◌, ◌<◌, ℕ, List, cond, refl, sym, ap, ◌∙◌, subst, arith, Option, Some, None, is_some, eq-eqb, lt-ltb}
use Rattle.std.proofs.lemmas.Bool.{and_from}
use Rattle.machine.specs.Step.{Answer, Full, Moves, Step, Taken, moved, outcome, outcome_in, seen, ticked}
use Rattle.machine.specs.Effect.{AreRising}
use Rattle.machine.specs.Turns.{Begins, Changes, Closes, Continues, Dismissed, Expires, Ticks, Turn, concern, named}
use Rattle.machine.specs.State.{Dialogue, IsIdOf, State, local_of}
use Rattle.machine.specs.Events.{Event}
use Rattle.machine.specs.Outcome.{Outcome}
use Rattle.machine.specs.Sound.{Sound}
use Rattle.machine.specs.Holders.{vlr_of, vlr_of_kind}
use Rattle.machine.specs.Routing.{route, shard_of_subject, shard_named}
use Rattle.machine.specs.Keys.{shard_of, shard_of_id}
use Rattle.machine_laws.proofs.Keys.{none_some, some_inj}
use Rattle.machine_laws.proofs.ChangeOutcomes.{good_changes}
use Rattle.machine_laws.proofs.Outcomes.{At, Good, SoundBefore, good_begins, good_continues, good_closes, good_expires}
use Rattle.machine_laws.proofs.Views.{View, view, Idly, Ticking, Beginning, Continuing, Closing, Expiring, Changing}
use Rattle.machine_laws.proofs.Soundness.{NamesOf, moved_sound}

-- the VLR digits of the dialogue that it is for
abbrev pub began_of : Turn → Option (List ℕ)
began_of (Dismissed out) = None
began_of (Ticks n now) = None
began_of (Begins from r p cs) = None
began_of (Continues i d cs) = vlr_of_kind d.kind
began_of (Closes i d) = vlr_of_kind d.kind
began_of (Expires i d j was) = vlr_of_kind d.kind
began_of (Changes x c) = None

pub record Facts (S : State) (e : Event) (turn : Turn) (x new : List ℕ) (n : ℕ) : Type 0 where
  pub good : Good (local_of S n x) S.dialogues (named turn) (began_of turn) (vlr_of e) new (outcome (local_of S n x) turn new)
  pub names : NamesOf S x (named turn)
  pub here : route S.directory e ≡ shard_of x

pub sound_before : (S : State) (n : ℕ) (x : List ℕ) → Sound S → SoundBefore (local_of S n x) S.dialogues
unfolding local_of
sound_before S n x sound s e = sound.records x s e

at_dialogue : (S : State) (n : ℕ) (i : List ℕ) (d f : Dialogue) → Sound S → S.dialogues i ≡ Some d → f.subscriber ≡ d.subscriber → f.kind ≡ d.kind
    → f.invocations ≡ d.invocations → At (local_of S n d.subscriber) S.dialogues i f
unfolding local_of
at_dialogue S n i d f sound e s k v = record {
  known = (sound.dialogues i d e).has_record;
  subscriber = s;
  there = (d, e, refl, sym k);
  rising = subst
      (λ us. AreRising us) (sym v) (sound.dialogues i d e).rising;
}

pub shard_small : (x : List ℕ) → shard_of x < 16
unfolding shard_of
shard_small x = omega arith

pub shard_named_is : (S : State) (i : List ℕ) (d : Dialogue) → Sound S → S.dialogues i ≡ Some d → shard_named i ≡ shard_of d.subscriber
shard_named_is S i d sound e =
    let id : IsIdOf (shard_of d.subscriber) i = (sound.dialogues i d e).id in
    let small : shard_of_id i < 16 = subst (λ (m : ℕ). m < 16) (sym id.shard) (shard_small d.subscriber) in
    ap (λ b. cond b (shard_of_id i) 0) (and_from _ _ (eq-eqb _ _ id.four) (lt-ltb _ _ small)) ∙ id.shard

one_name : (S : State) (i : List ℕ) (d : Dialogue) → S.dialogues i ≡ Some d → NamesOf S d.subscriber (Some i)
one_name S i d e j q = (d, ap S.dialogues (sym (some_inj i j _ refl q)) ∙ e, refl)

no_name : (S : State) (x : List ℕ) → NamesOf S x None
no_name S x j q = absurd (none_some j None refl q)

pub facts : (S : State) (e : Event) (turn : Turn) (x new : List ℕ) (n : ℕ) → Sound S → View S e turn → concern S.directory turn ≡ Some x
    → Facts S e turn x new n
facts S e _ x new n sound (Idly out q) c = absurd (none_some x None refl c)
facts S e _ x new n sound (Ticking m now q) c = absurd (none_some x None refl c)
facts S e _ x new n sound (Beginning from r p cs q) c =
    let P : Event → Type 0 = λ f. Facts S f (Begins from r p cs) x new n in
    subst P (sym q) (record {
      good = good_begins (local_of S n x) S.dialogues None new (sound_before S n x sound) from r p cs;
      names = no_name S x;
      here = ap shard_of_subject c;
    })
facts S e _ x new n sound (Continuing i d t cs there active v nm r) c =
    let P : List ℕ → Type 0 = λ y. Facts S e (Continues i (record d { transaction = t }) cs) y new n in
    subst P (some_inj d.subscriber x _ refl c) (record {
      good = let Q : Option (List ℕ) → Type 0 = λ w. Good (local_of S n d.subscriber) S.dialogues (Some i) (vlr_of_kind d.kind) w new
          (outcome (local_of S n d.subscriber) (Continues i (record d { transaction = t }) cs) new) in
          subst Q (sym v) (good_continues (local_of S n d.subscriber) S.dialogues new i (record d { transaction = t }) (sound_before S n d.subscriber sound)
          (at_dialogue S n i d (record d { transaction = t }) sound there refl refl refl) cs active);
      names = one_name S i d there;
      here = r ∙ shard_named_is S i d sound there;
    })
facts S e _ x new n sound (Closing i d there v nm r) c =
    let P : List ℕ → Type 0 = λ y. Facts S e (Closes i d) y new n in
    subst P (some_inj d.subscriber x _ refl c) (record {
      good = good_closes (local_of S n d.subscriber) S.dialogues (vlr_of e) new i d (sound_before S n d.subscriber sound)
          (at_dialogue S n i d d sound there refl refl refl) (vlr_of_kind d.kind);
      names = one_name S i d there;
      here = r ∙ shard_named_is S i d sound there;
    })
facts S e _ x new n sound (Expiring m i d j v q due least) c =
    let P : List ℕ → Type 0 = λ y. Facts S e (Expires i d j v.was) y new n in
    let R : Event → Type 0 = λ f. Facts S f (Expires i d j v.was) d.subscriber new n in
    subst P (some_inj d.subscriber x _ refl c) (subst R (sym q) (record {
      good = good_expires (local_of S n d.subscriber) S.dialogues new i d (sound_before S n d.subscriber sound)
          (at_dialogue S n i d d sound due.is_open refl refl refl) j v due.stands (sound.dialogues i d due.is_open).has_sent;
      names = one_name S i d due.is_open;
      here = sym due.of_shard ∙ (sound.dialogues i d due.is_open).id.shard;
    }))
facts S e _ x new n sound (Changing y k q) c =
    let P : List ℕ → Type 0 = λ z. Facts S e (Changes y k) z new n in
    let R : Event → Type 0 = λ f. Facts S f (Changes y k) y new n in
    subst P (some_inj y x _ refl c) (subst R (sym q) (record {
      good = good_changes (local_of S n y) S.dialogues new (sound_before S n y sound) k (local_of S n y).record_of refl;
      names = no_name S y;
      here = refl;
    }))

-- the clock alone
ticked_sound : (S : State) (n now : ℕ) → Sound S → Sound (ticked (Ticks n now) S)
ticked_sound S n now sound = record {
  dialogues = sound.dialogues;
  records = sound.records;
  few = λ m is h. sound.few m is (record { different = h.different; open_ones = h.open_ones });
}

no_tick : (S T : State) (turn : Turn) (x : List ℕ) → concern S.directory turn ≡ Some x → ticked turn T ≡ T
no_tick S T (Dismissed out) x c = refl
no_tick S T (Ticks n now) x c = absurd (none_some x None refl c)
no_tick S T (Begins from r p cs) x c = refl
no_tick S T (Continues i d cs) x c = refl
no_tick S T (Closes i d) x c = refl
no_tick S T (Expires i d j was) x c = refl
no_tick S T (Changes y k) x c = refl

-- the state after a step whose subscriber is x
pub state_of : (S : State) (e : Event) (turn : Turn) (x new : List ℕ) (after : State) (a : Answer) → concern S.directory turn ≡ Some x
    → Moves S (route S.directory e) turn new (outcome_in S (route S.directory e) turn new) after a
    → after ≡ moved S (Some x) (named turn) new (outcome (local_of S (route S.directory e) x) turn new)
state_of S e turn x new after a c m = m.state ∙ no_tick S _ turn x c
    ∙ ap (λ (o : Option (List ℕ)). moved S o (named turn) new (outcome (seen S (route S.directory e) o) turn new)) c

pub outcome_of : (S : State) (n : ℕ) (turn : Turn) (x new : List ℕ) → concern S.directory turn ≡ Some x
    → outcome_in S n turn new ≡ outcome (local_of S n x) turn new
outcome_of S n turn x new c = ap (λ (o : Option (List ℕ)). outcome (seen S n o) turn new) c

-- without a subscriber, only a clock moves
pub state_none : (S : State) (e : Event) (turn : Turn) (new : List ℕ) (after : State) (a : Answer) → concern S.directory turn ≡ None
    → Moves S (route S.directory e) turn new (outcome_in S (route S.directory e) turn new) after a → after ≡ ticked turn S
state_none S e turn new after a c m = m.state ∙ ap (λ (o : Option (List ℕ)). ticked turn
    (moved S o (named turn) new (outcome_in S (route S.directory e) turn new))) c

sound_ticked : (S : State) (turn : Turn) → Sound S → Sound (ticked turn S)
sound_ticked S (Dismissed out) sound = sound
sound_ticked S (Ticks n now) sound = ticked_sound S n now sound
sound_ticked S (Begins from r p cs) sound = sound
sound_ticked S (Continues i d cs) sound = sound
sound_ticked S (Closes i d) sound = sound
sound_ticked S (Expires i d j was) sound = sound
sound_ticked S (Changes y k) sound = sound

taken_sound : (S : State) (e : Event) (turn : Turn) (new : List ℕ) (after : State) (a : Answer) → Sound S → View S e turn
    → Moves S (route S.directory e) turn new (outcome_in S (route S.directory e) turn new) after a → (c : Option (List ℕ)) → concern S.directory turn ≡ c
    → Sound after
taken_sound S e turn new after a sound v m None c = subst (λ T. Sound T) (sym (state_none S e turn new after a c m)) (sound_ticked S turn sound)
taken_sound S e turn new after a sound v m (Some x) c =
    let n : ℕ = route S.directory e in
    let f : Facts S e turn x new n = facts S e turn x new n sound v c in
    let same_outcome : outcome_in S n turn new ≡ outcome (local_of S n x) turn new = outcome_of S n turn x new c in
    subst (λ T. Sound T) (sym (state_of S e turn x new after a c m))
    (moved_sound S n x (named turn) new (outcome (local_of S n x) turn new) (began_of turn) (vlr_of e) sound f.good f.here f.names
    (λ h. (m.opens (ap (λ (o : Outcome). is_some o.opens) same_outcome ∙ h)).of_shard)
    (λ h. (m.opens (ap (λ (o : Outcome). is_some o.opens) same_outcome ∙ h)).is_new)
    (λ h q full. m.room (record { opens = ap (λ (o : Outcome). is_some o.opens) same_outcome ∙ h; beside = q; full = full })))

pub step_sound : (S : State) (e : Event) (after : State) (a : Answer) → Sound S → Step S e after a → Sound after
step_sound S e after a sound (Taken turn new comes m) = taken_sound S e turn new after a sound (view S e turn comes) m (concern S.directory turn) refl
step_sound S e after a sound (Full turn new comes t) = subst (λ T. Sound T) (sym t.state) sound
