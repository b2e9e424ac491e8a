-- Parts, and merges of the journals of sixteen shards.
use Rattle.std.proofs.Common.{◌≡◌, ◌≤◌, ◌<◌, ℕ, List, [], ◌∷◌, Bool, true, false, cond, ◌==◌, nat_lt, length, refl, sym, ap, ◌∙◌, subst, ◌⊎◌, inl, inr, Option, Some, None, is_some, eq-eqb, lt-ltb, le-ltb, arith}
use Rattle.std.proofs.lemmas.Bool.{both_ways, eqb-true, ne_eqb, cases_eq, cases_lt}
use Rattle.machine.specs.Step.{Answer, Step}
use Rattle.machine.specs.State.{AreOpen, Dialogue, IsIdOf, State, Subscriber}
use Rattle.machine.specs.Legal.{Entry, Legal, answers_of, events_of}
use Rattle.machine.specs.Events.{Event}
use Rattle.machine.specs.Keys.{Every, put_at, shard_of, shard_of_id}
use Rattle.machine.specs.Sound.{IsUpdateOf, Sound, SoundDialogue, SoundRecord}
use Rattle.machine.specs.Parts.{Leaves, part, union}
use Rattle.machine.specs.Merges.{Merges}
use Rattle.machine.specs.Run.{Run}
use Rattle.machine.specs.Routing.{route}
use Rattle.machine_laws.proofs.Keys.{none_some}
use Rattle.machine_laws.proofs.Counting.{every_to}
use Rattle.machine_laws.proofs.Outcomes.{record_keeps}
use Rattle.machine_laws.proofs.Steps.{step_sound, shard_small}
use Rattle.machine_laws.proofs.Transfer.{put_at_same, put_at_other, step_leaves}
use Rattle.machine_laws.proofs.Parts.{AgreeOn, agree_sym, Again, step_again}

-- parts

cond_alike : {X : Type 0} (b : Bool) (x y z : X) → (b ≡ true → x ≡ y) → cond b x z ≡ cond b y z
cond_alike true x y z h = h refl
cond_alike false x y z h = refl

cond_at : {X : Type 0} (b : Bool) (x z : X) → b ≡ true → cond b x z ≡ x
cond_at true x z e = refl
cond_at false x z e = absurd (both_ways false refl e)

cond_off : {X : Type 0} (b : Bool) (x z : X) → b ≡ false → cond b x z ≡ z
cond_off false x z e = refl
cond_off true x z e = absurd (both_ways true e refl)

pub part_alike : (n : ℕ) (S T : State) → AgreeOn n S T → part T n ≡ part S n
unfolding part
part_alike n S T h = λ k. record {
  records = λ x. cond_alike (shard_of x == n) _ _ None (λ e. h.records x (eqb-true _ _ e)) k;
  dialogues = λ i. cond_alike (shard_of_id i == n) _ _ None (λ e. h.dialogues i (eqb-true _ _ e)) k;
  clocks = λ m. cond_alike (m == n) _ _ 0 (λ e. ap T.clocks (eqb-true m n e) ∙ h.clock ∙ ap S.clocks (sym (eqb-true m n e))) k;
  directory = h.directory k;
  hlr = h.hlr k;
}

pub part_agrees : (n : ℕ) (S : State) → AgreeOn n S (part S n)
unfolding part
part_agrees n S = record {
  records = λ x e. cond_at _ _ _ (eq-eqb _ _ e);
  dialogues = λ i e. cond_at _ _ _ (eq-eqb _ _ e);
  clock = cond_at _ _ _ (eq-eqb n n refl);
  directory = refl;
  hlr = refl;
}

-- what a step in a state of shard n leaves is a state of shard n
pub part_leaves : (n : ℕ) (S T : State) → S ≡ part S n → Leaves S T n → T ≡ part T n
unfolding part
part_leaves n S T p h = λ k. record {
  records = λ x. records_at x k;
  dialogues = λ i. dialogues_at i k;
  clocks = λ m. clocks_at m k;
  directory = T.directory;
  hlr = T.hlr;
}
  where
    records_at : (x : List ℕ) → T.records x ≡ cond (shard_of x == n) (T.records x) None
    records_at x = go (cases_eq (shard_of x) n)
      where
        go : (shard_of x ≡ n) ⊎ (shard_of x ≡ n → ⊥) → T.records x ≡ cond (shard_of x == n) (T.records x) None
        go (inl e) = sym (cond_at _ _ _ (eq-eqb _ _ e))
        go (inr ne) = h.records x ne ∙ ap (λ (U : State). U.records x) p ∙ cond_off _ _ _ (ne_eqb _ _ ne) ∙ sym (cond_off _ _ _ (ne_eqb _ _ ne))

    dialogues_at : (i : List ℕ) → T.dialogues i ≡ cond (shard_of_id i == n) (T.dialogues i) None
    dialogues_at i = go (cases_eq (shard_of_id i) n)
      where
        go : (shard_of_id i ≡ n) ⊎ (shard_of_id i ≡ n → ⊥) → T.dialogues i ≡ cond (shard_of_id i == n) (T.dialogues i) None
        go (inl e) = sym (cond_at _ _ _ (eq-eqb _ _ e))
        go (inr ne) = h.dialogues i ne ∙ ap (λ (U : State). U.dialogues i) p ∙ cond_off _ _ _ (ne_eqb _ _ ne) ∙ sym (cond_off _ _ _ (ne_eqb _ _ ne))

    clocks_at : (m : ℕ) → T.clocks m ≡ cond (m == n) (T.clocks m) 0
    clocks_at m = go (cases_eq m n)
      where
        go : (m ≡ n) ⊎ (m ≡ n → ⊥) → T.clocks m ≡ cond (m == n) (T.clocks m) 0
        go (inl e) = sym (cond_at _ _ _ (eq-eqb _ _ e))
        go (inr ne) = h.clocks m ne ∙ ap (λ (U : State). U.clocks m) p ∙ cond_off _ _ _ (ne_eqb _ _ ne) ∙ sym (cond_off _ _ _ (ne_eqb _ _ ne))

-- the part of a sound state is sound
pub part_sound : (n : ℕ) (S : State) → Sound S → Sound (part S n)
unfolding part
part_sound n S sound = record {
  dialogues = λ i d e. dialogue_at i d (cases_eq (shard_of_id i) n) e;
  records = λ x s e. record_at x s (cases_eq (shard_of x) n) e;
  few = λ m is h. sound.few m is (record {
    different = h.different;
    open_ones = every_to
        (λ i. (shard_of_id i ≡ m) × (cond (shard_of_id i == n) (S.dialogues i) None ≡ None → ⊥)) (λ i. (shard_of_id i ≡ m) × (S.dialogues i ≡ None → ⊥))
        (λ i q. (q.0, λ z. q.1 (none_either (shard_of_id i == n) (S.dialogues i) z))) is h.open_ones;
  });
}
  where
    none_either : (b : Bool) (o : Option Dialogue) → o ≡ None → cond b o None ≡ None
    none_either true o e = e
    none_either false o e = refl

    dialogue_at : (i : List ℕ) (d : Dialogue) → (shard_of_id i ≡ n) ⊎ (shard_of_id i ≡ n → ⊥) → cond (shard_of_id i == n) (S.dialogues i) None ≡ Some d
        → SoundDialogue (λ x. cond (shard_of x == n) (S.records x) None) i d
    dialogue_at i d (inl q) e =
        let there : S.dialogues i ≡ Some d = sym (cond_at _ _ _ (eq-eqb _ _ q)) ∙ e in
        let was : SoundDialogue S.records i d = sound.dialogues i d there in
        record {
          id = was.id;
          has_record = ap (λ (o : Option Subscriber). is_some o) (cond_at _ _ _ (eq-eqb _ _ (sym was.id.shard ∙ q)))
              ∙ was.has_record;
          has_sent = was.has_sent;
          rising = was.rising;
        }
    dialogue_at i d (inr ne) e = absurd (none_some d _ (cond_off _ _ _ (ne_eqb _ _ ne)) e)

    marked : (x j : List ℕ) → shard_of x ≡ n → IsUpdateOf x (S.dialogues j) → IsUpdateOf x (cond (shard_of_id j == n) (S.dialogues j) None)
    marked x j q u = by (S.dialogues j) refl u
      where
        by : (o : Option Dialogue) → S.dialogues j ≡ o → IsUpdateOf x o → IsUpdateOf x (cond (shard_of_id j == n) o None)
        by None e w = absurd w
        by (Some d) e w =
            let there : shard_of_id j ≡ n = (sound.dialogues j d e).id.shard ∙ ap shard_of w.0 ∙ q in
            let P : Option Dialogue → Type 0 = λ v. IsUpdateOf x v in
            subst P (sym (cond_at (shard_of_id j == n) (Some d) None (eq-eqb _ _ there))) w

    record_at : (x : List ℕ) (s : Subscriber) → (shard_of x ≡ n) ⊎ (shard_of x ≡ n → ⊥) → cond (shard_of x == n) (S.records x) None ≡ Some s
        → SoundRecord (λ i. cond (shard_of_id i == n) (S.dialogues i) None) x s
    record_at x s (inl q) e = record_keeps x S.dialogues _ s (sound.records x s (sym (cond_at _ _ _ (eq-eqb _ _ q)) ∙ e)) (λ j c u. marked x j q u)
    record_at x s (inr ne) e = absurd (none_some s _ (cond_off _ _ _ (ne_eqb _ _ ne)) e)

-- a step of shard n reads and changes its part alone
pub record OfPart (S T : State) (e : Event) (a : Answer) (n : ℕ) : Type 0 where
  pub inside : Step (part S n) e (part T n) a
  pub outside : Leaves S T n

route_part : (n : ℕ) (S : State) (e : Event) → route (part S n).directory e ≡ route S.directory e
unfolding part
route_part n S e = refl

pub step_of_part : (S T : State) (e : Event) (a : Answer) → Sound S → Step S e T a → OfPart S T e a (route S.directory e)
step_of_part S T e a sound step =
    let n : ℕ = route S.directory e in
    let again : Again n (part S n) T e a = step_again n S (part S n) T e a sound (part_sound n S sound) (part_agrees n S) refl step in
    let leaves : Leaves (part S n) again.state n = subst (λ m. Leaves (part S n) again.state m) (route_part n S e)
    (step_leaves (part S n) e again.state a (part_sound n S sound) again.step) in
    let part_part : part S n ≡ part (part S n) n = sym (part_alike n S (part S n) (part_agrees n S)) in
    let is_part : again.state ≡ part T n = part_leaves n (part S n) again.state part_part leaves ∙ part_alike n T again.state again.agree in
    record { inside = subst (λ U. Step (part S n) e U a) is_part again.step; outside = step_leaves S e T a sound step }

pub record InWhole (S : State) (e : Event) (a : Answer) (n : ℕ) (P : State) : Type 0 where
  pub state : State
  pub step : Step S e state a
  pub is_part : part state n ≡ P
  pub outside : Leaves S state n

pub step_in_whole : (S P : State) (e : Event) (a : Answer) (n : ℕ) → Sound S → route S.directory e ≡ n → Step (part S n) e P a → InWhole S e a n P
step_in_whole S P e a n sound r step =
    let again : Again n S P e a = step_again n (part S n) S P e a (part_sound n S sound) sound (agree_sym n S (part S n) (part_agrees n S))
    (route_part n S e ∙ r) step in
    let leaves : Leaves (part S n) P n = subst (λ m. Leaves (part S n) P m) (route_part n S e ∙ r) (step_leaves (part S n) e P a (part_sound n S sound) step) in
    let part_part : part S n ≡ part (part S n) n = sym (part_alike n S (part S n) (part_agrees n S)) in
    record {
      state = again.state;
      step = again.step;
      is_part = part_alike n P again.state again.agree ∙ sym (part_leaves n (part S n) P part_part leaves);
      outside = subst (λ m. Leaves S again.state m) r (step_leaves S e again.state a sound again.step);
    }

-- merges

-- the whole state agrees with the sixteen states
pub record Goes (W : State) (states : ℕ → State) : Type 0 where
  pub agree : (n : ℕ) → n < 16 → AgreeOn n (states n) W
  pub sound : Sound W
  pub sounds : (n : ℕ) → n < 16 → Sound (states n)
  pub clocks : (n : ℕ) → 16 ≤ n → W.clocks n ≡ 0

none_of : (o : Option Dialogue) → ((d : Dialogue) → o ≡ Some d → ⊥) → o ≡ None
none_of None h = refl
none_of (Some d) h = absurd (h d refl)

pub goes_union : (W : State) (states : ℕ → State) → Goes W states → W ≡ union states
unfolding union
goes_union W states g = λ k. record {
  records = λ x. (g.agree (shard_of x) (shard_small x)).records x refl k;
  dialogues = λ i. dialogues_at i k;
  clocks = λ n. clocks_at n k;
  directory = (g.agree 0 (omega arith)).directory k;
  hlr = (g.agree 0 (omega arith)).hlr k;
}
  where
    dialogues_at : (i : List ℕ) → W.dialogues i ≡ cond (nat_lt (shard_of_id i) 16) ((states (shard_of_id i)).dialogues i) None
    dialogues_at i = go (cases_lt (shard_of_id i) 16)
      where
        go : (shard_of_id i < 16) ⊎ (16 ≤ shard_of_id i) → W.dialogues i ≡ cond (nat_lt (shard_of_id i) 16) ((states (shard_of_id i)).dialogues i) None
        go (inl h) = (g.agree (shard_of_id i) h).dialogues i refl ∙ sym (cond_at _ _ _ (lt-ltb _ _ h))
        go (inr h) = none_of (W.dialogues i) (λ d e. let id : IsIdOf (shard_of d.subscriber) i =
            (g.sound.dialogues i d e).id in let small : shard_of_id i < 16 = subst (λ (m : ℕ). m < 16) (sym id.shard) (shard_small d.subscriber) in absurd
            (omega arith)) ∙ sym (cond_off _ _ _ (le-ltb _ _ h))

    clocks_at : (n : ℕ) → W.clocks n ≡ cond (nat_lt n 16) ((states n).clocks n) 0
    clocks_at n = go (cases_lt n 16)
      where
        go : (n < 16) ⊎ (16 ≤ n) → W.clocks n ≡ cond (nat_lt n 16) ((states n).clocks n) 0
        go (inl h) = (g.agree n h).clock ∙ sym (cond_at _ _ _ (lt-ltb _ _ h))
        go (inr h) = g.clocks n h ∙ sym (cond_off _ _ _ (le-ltb _ _ h))

-- the union of sound states under one directory and HLR number agrees with them
pub union_goes : (states : ℕ → State) → ((n : ℕ) → n < 16 → Sound (states n)) → ((n : ℕ) → n < 16 → (states n).directory ≡ (states 0).directory)
    → ((n : ℕ) → n < 16 → (states n).hlr ≡ (states 0).hlr) → Goes (union states) states
unfolding union
union_goes states sounds directories hlrs = record {
  agree = λ n h. record {
    records = λ x e. ap (λ m. (states m).records x) e;
    dialogues = λ i e. ap (λ m. cond (nat_lt m 16) ((states m).dialogues i) None) e ∙ cond_at _ _ _ (lt-ltb _ _ h);
    clock = cond_at _ _ _ (lt-ltb _ _ h);
    directory = sym (directories n h);
    hlr = sym (hlrs n h);
  };
  sound = record {
    dialogues = dialogue_at;
    records = record_at;
    few = few_at;
  };
  sounds = sounds;
  clocks = λ n h. cond_off _ _ _ (le-ltb _ _ h);
}
  where
    there_at : (i : List ℕ) (d : Dialogue) → cond (nat_lt (shard_of_id i) 16) ((states (shard_of_id i)).dialogues i) None ≡ Some d
        → (shard_of_id i < 16) × ((states (shard_of_id i)).dialogues i ≡ Some d)
    there_at i d e = go (cases_lt (shard_of_id i) 16)
      where
        go : (shard_of_id i < 16) ⊎ (16 ≤ shard_of_id i) → (shard_of_id i < 16) × ((states (shard_of_id i)).dialogues i ≡ Some d)
        go (inl h) = (h, sym (cond_at _ _ _ (lt-ltb _ _ h)) ∙ e)
        go (inr h) = absurd (none_some d _ (cond_off _ _ _ (le-ltb _ _ h)) e)

    dialogue_at : (i : List ℕ) (d : Dialogue) → cond (nat_lt (shard_of_id i) 16) ((states (shard_of_id i)).dialogues i) None ≡ Some d
        → SoundDialogue (λ x. (states (shard_of x)).records x) i d
    dialogue_at i d e =
        let t : (shard_of_id i < 16) × ((states (shard_of_id i)).dialogues i ≡ Some d) = there_at i d e in
        let was : SoundDialogue (states (shard_of_id i)).records i d = (sounds (shard_of_id i) t.0).dialogues i d t.1 in
        record {
          id = was.id;
          has_record = ap (λ (m : ℕ). is_some ((states m).records d.subscriber)) (sym was.id.shard)
              ∙ was.has_record;
          has_sent = was.has_sent;
          rising = was.rising;
        }

    marked : (x j : List ℕ) → IsUpdateOf x ((states (shard_of x)).dialogues j)
        → IsUpdateOf x (cond (nat_lt (shard_of_id j) 16) ((states (shard_of_id j)).dialogues j) None)
    marked x j u = by ((states (shard_of x)).dialogues j) refl u
      where
        by : (o : Option Dialogue) → (states (shard_of x)).dialogues j ≡ o → IsUpdateOf x o
            → IsUpdateOf x (cond (nat_lt (shard_of_id j) 16) ((states (shard_of_id j)).dialogues j) None)
        by None e w = absurd w
        by (Some d) e w =
            let same_shard : shard_of_id j ≡ shard_of x = ((sounds (shard_of x) (shard_small x)).dialogues j d e).id.shard ∙ ap shard_of w.0 in
            let small : shard_of_id j < 16 = subst (λ (m : ℕ). m < 16) (sym same_shard) (shard_small x) in
            let P : Option Dialogue → Type 0 = λ v. IsUpdateOf x v in
            subst P (sym (cond_at (nat_lt (shard_of_id j) 16) ((states (shard_of_id j)).dialogues j) None (lt-ltb _ _ small) ∙ ap (λ (m : ℕ).
            (states m).dialogues j) same_shard ∙ e)) w

    record_at : (x : List ℕ) (s : Subscriber) → (states (shard_of x)).records x ≡ Some s
        → SoundRecord (λ i. cond (nat_lt (shard_of_id i) 16) ((states (shard_of_id i)).dialogues i) None) x s
    record_at x s e = record_keeps x (states (shard_of x)).dialogues _ s ((sounds (shard_of x) (shard_small x)).records x s e) (λ j c u. marked x j u)

    few_at : (n : ℕ) (is : List (List ℕ)) → AreOpen (union states) n is → length is ≤ 4096
    few_at n is h = go (cases_lt n 16)
      where
        open_one : n < 16 → (i : List ℕ) → (shard_of_id i ≡ n) × (cond (nat_lt (shard_of_id i) 16) ((states (shard_of_id i)).dialogues i) None ≡ None → ⊥)
            → (shard_of_id i ≡ n) × ((states n).dialogues i ≡ None → ⊥)
        open_one s i q = (q.0, λ z. q.1 (ap (λ m. cond (nat_lt m 16) ((states m).dialogues i) None) q.0 ∙ cond_at _ _ _ (lt-ltb _ _ s) ∙ z))

        no_one : 16 ≤ n → (js : List (List ℕ)) → Every (λ i. (shard_of_id i ≡ n)
            × (cond (nat_lt (shard_of_id i) 16) ((states (shard_of_id i)).dialogues i) None ≡ None → ⊥)) js → length js ≤ 4096
        no_one s [] q = omega arith
        no_one s (j ∷ js) q = absurd (q.0.1 (cond_off _ _ _ (le-ltb _ _ (subst (λ (m : ℕ). 16 ≤ m) (sym q.0.0) s))))

        go : (n < 16) ⊎ (16 ≤ n) → length is ≤ 4096
        go (inl s) = (sounds n s).few n is (record {
          different = h.different;
          open_ones = every_to
              (λ i. (shard_of_id i ≡ n) × (cond (nat_lt (shard_of_id i) 16) ((states (shard_of_id i)).dialogues i) None ≡ None → ⊥))
              (λ i. (shard_of_id i ≡ n) × ((states n).dialogues i ≡ None → ⊥)) (open_one s) is h.open_ones;
        })
        go (inr s) = no_one s is h.open_ones

-- each shard's own run, from its state to its end
pub record Ahead (states finals : ℕ → State) (journals : ℕ → List Entry) : Type 0 where
  pub runs : (n : ℕ) → n < 16 → Run (states n) (events_of (journals n)) (finals n) (answers_of (journals n))
  pub routed : (n : ℕ) → n < 16 → Every (λ j. route (states n).directory j.event ≡ n) (journals n)

every_entry : (P Q : Entry → Type 0) → ((j : Entry) → P j → Q j) → (js : List Entry) → Every P js → Every Q js
every_entry P Q f [] h = tt
every_entry P Q f (j ∷ js) h = (f j h.0, every_entry P Q f js h.1)

module _ (n : ℕ) (journals : ℕ → List Entry) (states finals : ℕ → State) (W M : State) (small : n < 16) (g : Goes W states)
    (a : Ahead states finals journals) where
  merged_goes : (e : Event) (w : Answer) → Step (states n) e M w → (again : Again n W M e w) → Leaves W again.state n → Goes again.state (put_at states n M)
  merged_goes e w step again leaves = record {
    agree = λ m h. agree_at m h (cases_eq n m);
    sound = step_sound W e again.state w g.sound again.step;
    sounds = λ m h. sound_at m h (cases_eq n m);
    clocks = λ m h. leaves.clocks m (λ q. absurd (omega arith)) ∙ g.clocks m h;
  }
    where
      agree_at : (m : ℕ) → m < 16 → (n ≡ m) ⊎ (n ≡ m → ⊥) → AgreeOn m (put_at states n M m) again.state
      agree_at m h (inl q) = subst (λ U. AgreeOn m U again.state) (sym (put_at_same states n M m q)) (subst (λ k. AgreeOn k M again.state) q again.agree)
      agree_at m h (inr ne) = subst (λ U. AgreeOn m U again.state) (sym (put_at_other states n M m ne)) (record {
        records = λ x q. leaves.records x (λ r. ne (sym r ∙ q)) ∙ (g.agree m h).records x q;
        dialogues = λ i q. leaves.dialogues i (λ r. ne (sym r ∙ q)) ∙ (g.agree m h).dialogues i q;
        clock = leaves.clocks m (λ r. ne (sym r)) ∙ (g.agree m h).clock;
        directory = leaves.directory ∙ (g.agree m h).directory;
        hlr = leaves.hlr ∙ (g.agree m h).hlr;
      })

      sound_at : (m : ℕ) → m < 16 → (n ≡ m) ⊎ (n ≡ m → ⊥) → Sound (put_at states n M m)
      sound_at m h (inl q) = subst (λ U. Sound U) (sym (put_at_same states n M m q)) (step_sound (states n) e M w (g.sounds n small) step)
      sound_at m h (inr ne) = subst (λ U. Sound U) (sym (put_at_other states n M m ne)) (g.sounds m h)

  merged_ahead : (rest : List Entry) → Run M (events_of rest) (finals n) (answers_of rest) → Every (λ k. route (states n).directory k.event ≡ n) rest
      → Leaves (states n) M n → Ahead (put_at states n M) finals (put_at journals n rest)
  merged_ahead rest run routed inner = record {
    runs = λ m h. run_at m h (cases_eq n m);
    routed = λ m h. routed_at m h (cases_eq n m);
  }
    where
      run_at : (m : ℕ) → m < 16 → (n ≡ m) ⊎ (n ≡ m → ⊥) → Run (put_at states n M m) (events_of (put_at journals n rest m)) (finals m)
          (answers_of (put_at journals n rest m))
      run_at m h (inl q) = subst (λ U. Run U (events_of (put_at journals n rest m)) (finals m) (answers_of (put_at journals n rest m)))
          (sym (put_at_same states n M m q))
          (let P : List Entry → Type 0 = λ js. Run M (events_of js) (finals m) (answers_of js) in subst P (sym (put_at_same journals n rest m q))
          (subst (λ (k : ℕ). Run M (events_of rest) (finals k) (answers_of rest)) q run))
      run_at m h (inr ne) = subst (λ U. Run U (events_of (put_at journals n rest m)) (finals m) (answers_of (put_at journals n rest m)))
          (sym (put_at_other states n M m ne))
          (let P : List Entry → Type 0 = λ js. Run (states m) (events_of js) (finals m) (answers_of js) in subst P (sym (put_at_other journals n rest m ne))
          (a.runs m h))

      routed_at : (m : ℕ) → m < 16 → (n ≡ m) ⊎ (n ≡ m → ⊥) → Every (λ k. route (put_at states n M m).directory k.event ≡ m) (put_at journals n rest m)
      routed_at m h (inl q) = subst (λ (U : State). Every (λ k. route U.directory k.event ≡ m) (put_at journals n rest m)) (sym (put_at_same states n M m q))
          (let P : List Entry → Type 0 = λ js. Every (λ k. route M.directory k.event ≡ m) js in subst P (sym (put_at_same journals n rest m q))
          (every_entry (λ k. route (states n).directory k.event ≡ n) (λ k. route M.directory k.event ≡ m)
          (λ k r. ap (λ d. route d k.event) inner.directory ∙ r ∙ q) rest routed))
      routed_at m h (inr ne) = subst (λ (U : State). Every (λ k. route U.directory k.event ≡ m) (put_at journals n rest m)) (sym (put_at_other states n M m ne))
          (let P : List Entry → Type 0 = λ js. Every (λ k. route (states m).directory k.event ≡ m) js in subst P (sym (put_at_other journals n rest m ne))
          (a.routed m h))

pub merge_runs : (js : List Entry) (journals : ℕ → List Entry) (states finals : ℕ → State) (W : State) → Goes W states → Ahead states finals journals
    → Merges journals js → (V : State) × Run W (events_of js) V (answers_of js) × Goes V finals
merge_runs [] journals states finals W g a done = (
  W,
  refl,
  record {
    agree = λ n h. subst (λ U. AgreeOn n U W) (ended n h) (g.agree n h);
    sound = g.sound;
    sounds = λ n h. subst (λ U. Sound U) (ended n h) (g.sounds n h);
    clocks = g.clocks;
  },
)
  where
    ended : (n : ℕ) → n < 16 → states n ≡ finals n
    ended n h = sym (let P : List Entry → Type 0 = λ js. Run (states n) (events_of js) (finals n) (answers_of js) in subst P (done n h) (a.runs n h))
merge_runs (j ∷ js) journals states finals W g a (n, rest, small, is, more) = go
    (let P : List Entry → Type 0 = λ ks. Run (states n) (events_of ks) (finals n) (answers_of ks) in subst P is (a.runs n small))
    (let P : List Entry → Type 0 = λ ks. Every (λ k. route (states n).directory k.event ≡ n) ks in subst P is (a.routed n small))
    (λ states' U h ahead. merge_runs js (put_at journals n rest) states' finals U h ahead more)
  where
    go : Run (states n) (events_of (j ∷ rest)) (finals n) (answers_of (j ∷ rest)) → Every (λ k. route (states n).directory k.event ≡ n) (j ∷ rest)
        → ((states' : ℕ → State) (U : State) → Goes U states' → Ahead states' finals (put_at journals n rest)
        → (V : State) × Run U (events_of js) V (answers_of js) × Goes V finals)
        → (V : State) × Run W (events_of (j ∷ js)) V (answers_of (j ∷ js)) × Goes V finals
    go (M, step, run) (r, routed) next =
        let again : Again n W M j.event j.answer = step_again n (states n) W M j.event j.answer (g.sounds n small) g.sound (g.agree n small) r step in
        let leaves : Leaves W again.state n = subst (λ m. Leaves W again.state m) (ap (λ d. route d j.event) (g.agree n small).directory ∙ r)
        (step_leaves W j.event again.state j.answer g.sound again.step) in
        let inner : Leaves (states n) M n = subst (λ m. Leaves (states n) M m) r (step_leaves (states n) j.event M j.answer (g.sounds n small) step) in
        let result : (V : State) × Run again.state (events_of js) V (answers_of js)
        × Goes V finals = next (put_at states n M) again.state (merged_goes n journals states finals W M small g a j.event j.answer step again leaves)
        (merged_ahead n journals states finals W M small g a rest run routed inner) in
        (result.0, (again.state, again.step, result.1), result.2)

-- every merge of sixteen legal journals is a run from the union of the bases to the union of the states
pub merge_law : (bases finals : ℕ → State) (journals : ℕ → List Entry) (js : List Entry)
    → ((n : ℕ) → n < 16 → Legal n (bases n) (journals n) (finals n))
    → ((n : ℕ) → n < 16 → (bases n).directory ≡ (bases 0).directory)
    → ((n : ℕ) → n < 16 → (bases n).hlr ≡ (bases 0).hlr)
    → Merges journals js → Run (union bases) (events_of js) (union finals) (answers_of js)
merge_law bases finals journals js legal directories hlrs merges =
    let result : (V : State) × Run (union bases) (events_of js) V (answers_of js) × Goes V finals =
    merge_runs js journals bases finals (union bases) (union_goes bases (λ n h. (legal n h).base_sound) directories hlrs) (record {
      runs = λ n h.
          (legal n h).run;
      routed = λ n h. (legal n h).routed;
    }) merges in
    subst (λ U. Run (union bases) (events_of js) U (answers_of js)) (goes_union result.0 finals result.2) result.1

-- a step of one shard is a step of the union
pub union_step : (states : ℕ → State) (n : ℕ) (M : State) (e : Event) (a : Answer)
    → ((m : ℕ) → m < 16 → Sound (states m)) → ((m : ℕ) → m < 16 → (states m).directory ≡ (states 0).directory)
    → ((m : ℕ) → m < 16 → (states m).hlr ≡ (states 0).hlr)
    → n < 16 → route (states n).directory e ≡ n → Step (states n) e M a → Step (union states) e (union (put_at states n M)) a
union_step states n M e a sounds directories hlrs small r step =
    let g : Goes (union states) states = union_goes states sounds directories hlrs in
    let again : Again n (union states) M e a = step_again n (states n) (union states) M e a (sounds n small) g.sound (g.agree n small) r step in
    let leaves : Leaves (union states) again.state n = subst (λ m. Leaves (union states) again.state m) (ap (λ d. route d e) (g.agree n small).directory ∙ r)
    (step_leaves (union states) e again.state a g.sound again.step) in
    let ends : Goes again.state (put_at states n M) = merged_goes n (λ m. []) states states (union states) M small g
    (record { runs = λ m h. refl; routed = λ m h. tt }) e a step again leaves in
    subst (λ U. Step (union states) e U a) (goes_union again.state (put_at states n M) ends) again.step
