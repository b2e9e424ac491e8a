-- One subscriber's own entries are a legal journal.
use Rattle.std.proofs.Common.{◌≡◌, ℕ, List, [], ◌∷◌, Bool, true, false, cond, ◌==◌, refl, sym, ap, ◌∙◌, subst, Option, Some, None, is_some}
use Rattle.machine.specs.Isolation.{AgreeOf, NoneTurnedAway, SameAfter, SameOf, is_of, only_of, own, without_mark}
use Rattle.machine.specs.Step.{Step}
use Rattle.machine.specs.State.{Dialogue, State, Subscriber, if_of}
use Rattle.machine.specs.Legal.{Entry, Legal, answers_of, events_of}
use Rattle.machine.specs.Keys.{Every, same, shard_of, shard_of_id}
use Rattle.machine.specs.Sound.{IsUpdateOf, Sound, SoundDialogue, SoundRecord}
use Rattle.machine.specs.Parts.{Leaves, part}
use Rattle.machine.specs.Run.{Run}
use Rattle.machine.specs.Routing.{route}
use Rattle.machine_laws.proofs.Keys.{none_some, some_inj, same_refl, same_is}
use Rattle.machine_laws.proofs.Counting.{every_to}
use Rattle.machine_laws.proofs.Outcomes.{record_keeps}
use Rattle.machine_laws.proofs.Steps.{step_sound}
use Rattle.machine_laws.proofs.Transfer.{step_leaves}
use Rattle.machine_laws.proofs.Merging.{part_leaves}
use Rattle.machine_laws.proofs.Isolation.{OwnStep, step_inside, step_outside, if_of_is, if_of_at}

-- whole journals

pub agree_outside : (x : List ℕ) (S T U : State) → AgreeOf x S T → SameAfter x S U → AgreeOf x U T
agree_outside x S T U h s = record {
  record_of = h.record_of ∙ sym s.record_of;
  dialogues = λ i. h.dialogues i ∙ sym (s.dialogues i);
  alone = h.alone;
  clocks = λ m. h.clocks m ∙ sym (s.clocks m);
  directory = h.directory ∙ sym s.directory;
  hlr = h.hlr ∙ sym s.hlr;
}

pub record OwnRun (x : List ℕ) (T S' : State) (js : List Entry) : Type 0 where
  pub state : State
  pub run : Run T (events_of js) state (answers_of js)
  pub agree : AgreeOf x S' state

own_more : (x : List ℕ) (S' T M : State) (j : Entry) (js : List Entry) → Step T j.event M j.answer → OwnRun x M S' js → OwnRun x T S' (j ∷ js)
own_more x S' T M j js step r = record { state = r.state; run = (M, step, r.run); agree = r.agree }

pub own_run : (x : List ℕ) (js : List Entry) (S T S' : State) → Sound S → AgreeOf x S T → Run S (events_of js) S' (answers_of js) → NoneTurnedAway js x
    → OwnRun x T S' (only_of js x)
own_run x [] S T S' sound h run none = record { state = T; run = refl; agree = subst (λ U. AgreeOf x U T) (sym run) h }
own_run x (j ∷ js) S T S' sound h (M, step, run) none = go (is_of x j) refl
    (λ T' agree. own_run x js M T' S' (step_sound S j.event M j.answer sound step) agree run none.1)
  where
    go : (b : Bool) → is_of x j ≡ b → ((T' : State) → AgreeOf x M T' → OwnRun x T' S' (only_of js x)) → OwnRun x T S' (cond b (j ∷ only_of js x) (only_of js x))
    go true q next = let inside : OwnStep x T M j.event j.answer = step_inside x S T j.event M j.answer sound h step q none.0 in own_more x S' T inside.state j
        (only_of js x) inside.step (next inside.state inside.agree)
    go false q next = next T (agree_outside x S T M h (step_outside x S j.event M j.answer sound step q))

-- a subscriber's own part

pub own_agrees : (x : List ℕ) (S : State) → AgreeOf x S (own S x)
unfolding own
own_agrees x S = record {
  record_of = ap (λ b. cond b (S.records x) (without_mark (S.records x))) (same_refl x);
  dialogues = λ i. again (S.dialogues i);
  alone = λ i d e. (if_of_is x (S.dialogues i) d e).1;
  clocks = λ m. refl;
  directory = refl;
  hlr = refl;
}
  where
    again : (o : Option Dialogue) → if_of x (if_of x o) ≡ if_of x o
    again None = refl
    again (Some d) = go (same d.subscriber x) refl
      where
        go : (b : Bool) → same d.subscriber x ≡ b → if_of x (cond b (Some d) None) ≡ cond b (Some d) None
        go true q = ap (λ b. cond b (Some d) None) q
        go false q = refl

unmarked_known : (r : Option Subscriber) → is_some (without_mark r) ≡ is_some r
unmarked_known None = refl
unmarked_known (Some s) = refl

pub own_sound : (x : List ℕ) (S : State) → Sound S → Sound (own S x)
unfolding own
own_sound x S sound = record {
  dialogues = λ i d e.
      let there : S.dialogues i ≡ Some d = (if_of_is x (S.dialogues i) d e).0 in
      let was : SoundDialogue S.records i d = sound.dialogues i d there in
      record { id = was.id; has_record = known (same d.subscriber x) (S.records d.subscriber) ∙ was.has_record; has_sent = was.has_sent; rising = was.rising };
  records = λ y s e. record_at y s (same y x) refl e;
  few = λ n is h. sound.few n is (record {
    different = h.different;
    open_ones = every_to (λ i. (shard_of_id i ≡ n) × (if_of x (S.dialogues i) ≡ None → ⊥))
        (λ i. (shard_of_id i ≡ n) × (S.dialogues i ≡ None → ⊥)) (λ i q. (q.0, λ z. q.1 (ap (λ o. if_of x o) z))) is h.open_ones;
  });
}
  where
    known : (b : Bool) (r : Option Subscriber) → is_some (cond b r (without_mark r)) ≡ is_some r
    known true r = refl
    known false r = unmarked_known r

    marked : (j : List ℕ) → IsUpdateOf x (S.dialogues j) → IsUpdateOf x (if_of x (S.dialogues j))
    marked j u = by (S.dialogues j) u
      where
        by : (o : Option Dialogue) → IsUpdateOf x o → IsUpdateOf x (if_of x o)
        by None w = w
        by (Some d) w = let P : Option Dialogue → Type 0 = λ v. IsUpdateOf x v in subst P (sym (if_of_at x (Some d) d refl w.0)) w

    other : (y : List ℕ) (r : Option Subscriber) → S.records y ≡ r → (s : Subscriber) → without_mark r ≡ Some s → SoundRecord (λ i. if_of x (S.dialogues i)) y s
    other y None q s e = absurd (none_some s None refl e)
    other y (Some t) q s e = subst (λ u. SoundRecord (λ i. if_of x (S.dialogues i)) y u) (some_inj _ s _ refl e)
        (record { mark = tt; purged = (sound.records y t q).purged; withdrawn = λ w. (((sound.records y t q).withdrawn w).0, refl) })

    record_at : (y : List ℕ) (s : Subscriber) (b : Bool) → same y x ≡ b → cond b (S.records y) (without_mark (S.records y)) ≡ Some s
        → SoundRecord (λ i. if_of x (S.dialogues i)) y s
    record_at y s true q e = record_keeps y S.dialogues _ s (sound.records y s e)
        (λ j c u. subst (λ (z : List ℕ). IsUpdateOf z (if_of x (S.dialogues j))) (sym (same_is y x q))
        (marked j (let P : List ℕ → Type 0 = λ z. IsUpdateOf z (S.dialogues j) in subst P (same_is y x q) u)))
    record_at y s false q e = other y (S.records y) refl s e

-- parts along a run

cond_none : {X : Type 0} (b : Bool) (o : Option X) (f : Option X → Option X) → o ≡ cond b o None → f None ≡ None → f o ≡ cond b (f o) None
cond_none true o f e n = refl
cond_none false o f e n = ap f e ∙ n

pub own_part : (n : ℕ) (x : List ℕ) (S : State) → S ≡ part S n → own S x ≡ part (own S x) n
unfolding own part
own_part n x S p = λ k. record {
  records = λ y. cond_none (shard_of y == n) (S.records y) (λ o. cond (same y x) o (without_mark o)) (ap (λ (U : State). U.records y) p)
      (none_both (same y x)) k;
  dialogues = λ i. cond_none (shard_of_id i == n) (S.dialogues i) (λ o. if_of x o) (ap (λ (U : State). U.dialogues i) p) refl k;
  clocks = λ m. ap (λ (U : State). U.clocks m) p k;
  directory = S.directory;
  hlr = S.hlr;
}
  where
    none_both : (b : Bool) → cond {A = Option Subscriber} b None None ≡ None
    none_both true = refl
    none_both false = refl

pub run_part : (n : ℕ) (js : List Entry) (S T : State) → Sound S → S ≡ part S n → Every (λ j. route S.directory j.event ≡ n) js
    → Run S (events_of js) T (answers_of js) → (Sound T) × (T ≡ part T n)
run_part n [] S T sound p routed run = (subst (λ U. Sound U) (sym run) sound, subst (λ U. U ≡ part U n) (sym run) p)
run_part n (j ∷ js) S T sound p routed (M, step, run) =
    let leaves : Leaves S M n = subst (λ m. Leaves S M m) routed.0 (step_leaves S j.event M j.answer sound step) in
    run_part n js M T (step_sound S j.event M j.answer sound step) (part_leaves n S M p leaves)
    (every_routed S.directory M.directory (sym leaves.directory) js routed.1) run
  where
    every_routed : (d e : List ℕ → Option (List ℕ)) → d ≡ e → (ks : List Entry) → Every (λ k. route d k.event ≡ n) ks → Every (λ k. route e k.event ≡ n) ks
    every_routed d e q ks h = subst (λ f. Every (λ k. route f k.event ≡ n) ks) q h

every_only : (P : Entry → Type 0) (x : List ℕ) (js : List Entry) → Every P js → Every P (only_of js x)
every_only P x [] h = tt
every_only P x (j ∷ js) h = go (is_of x j) (every_only P x js h.1)
  where
    go : (b : Bool) → Every P (only_of js x) → Every P (cond b (j ∷ only_of js x) (only_of js x))
    go true r = (h.0, r)
    go false r = r

-- isolation: the own entries of x are a legal journal from the own part of x, to a state with the same record and dialogues of x
pub isolation : (n : ℕ) (base S : State) (journal : List Entry) (x : List ℕ) → Legal n base journal S → NoneTurnedAway journal x
    → (T : State) × Legal n (own base x) (only_of journal x) T × SameOf x S T
unfolding own
isolation n base S journal x legal none =
    let r : OwnRun x (own base x) S (only_of journal x) = own_run x journal base (own base x) S legal.base_sound (own_agrees x base) legal.run none in
    let routed : Every (λ j. route (own base x).directory j.event ≡ n) (only_of journal x) = every_only
    (λ j. route base.directory j.event ≡ n) x journal legal.routed in
    let ends : (Sound r.state) × (r.state ≡ part r.state n) = run_part n (only_of journal x) (own base x) r.state (own_sound x base legal.base_sound)
    (own_part n x base legal.base_part) routed r.run in (
      r.state,
      record {
        is_shard = legal.is_shard;
        run = r.run;
        routed = routed;
        base_sound = own_sound x base legal.base_sound;
        after_sound = ends.0;
        base_part = own_part n x base legal.base_part;
        after_part = ends.1;
      },
      record { record_of = r.agree.record_of; dialogues = r.agree.dialogues },
    )
