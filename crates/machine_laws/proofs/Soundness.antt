-- A step keeps sound states sound.
use Rattle.std.proofs.Common.{◌≡◌, ◌≤◌, ◌<◌, ℕ, suc, List, ◌∷◌, length, refl, sym, ap, ◌∙◌, subst, ◌⊎◌, inl, inr, arith, Option, Some, None, is_some, IsTrue, take, length-take-le}
use Rattle.std.proofs.lemmas.Bool.{cases_lt}
use Rattle.machine.specs.Keys.{AreDifferent, Every, put, shard_of, shard_of_id}
use Rattle.machine.specs.State.{AreOpen, Dialogue, IsFull, IsIdOf, State, Subscriber, local_of}
use Rattle.machine.specs.Sound.{IsUpdateOf, Sound, SoundDialogue, SoundRecord}
use Rattle.machine.specs.Outcome.{Outcome}
use Rattle.machine.specs.Step.{moved, named_stays, new_opens}
use Rattle.machine_laws.proofs.Keys.{none_some, some_inj, put-other, put-at, put_cases}
use Rattle.machine_laws.proofs.Outcomes.{Good, Like, record_keeps}
use Rattle.machine_laws.proofs.Counting.{less, every_less, different_less, length_less, none_less, every_with, every_to, every_take, different_take}

-- what an event names is an open dialogue of x
abbrev pub NamesOf : State → List ℕ → Option (List ℕ) → Type 0
NamesOf S x i = (j : List ℕ) → i ≡ Some j → (d : Dialogue) × (S.dialogues j ≡ Some d) × (d.subscriber ≡ x)

-- where a dialogue that is open afterwards comes from
pub data From (S : State) (i : Option (List ℕ)) (new : List ℕ) (o : Outcome) (j : List ℕ) (d : Dialogue) : Type 0 where
  Opened : new ≡ j → o.opens ≡ Some d → From S i new o j d
  Stayed : i ≡ Some j → o.stays ≡ Some d → From S i new o j d
  Was_there : S.dialogues j ≡ Some d → (i ≡ Some j → ⊥) → From S i new o j d

from_named : (S : State) (i : Option (List ℕ)) (new : List ℕ) (o : Outcome) (j : List ℕ) (d : Dialogue) → named_stays i o.stays S.dialogues j ≡ Some d
    → From S i new o j d
from_named S None new o j d e = Was_there e (λ h. none_some j None refl h)
from_named S (Some k) new o j d e =
    put_cases S.dialogues k o.stays j (λ v. v ≡ Some d → From S (Some k) new o j d)
    (λ kj h. Stayed (ap (λ (q : List ℕ). Some q) kj) h)
    (λ ne h. Was_there h (λ q. ne (some_inj k j _ refl q))) e

from_new : (S : State) (i : Option (List ℕ)) (new : List ℕ) (o : Outcome) (j : List ℕ) (d : Dialogue) (opens : Option Dialogue) → o.opens ≡ opens
    → new_opens new opens (named_stays i o.stays S.dialogues) j ≡ Some d → From S i new o j d
from_new S i new o j d None q e = from_named S i new o j d e
from_new S i new o j d (Some f) q e =
    put_cases (named_stays i o.stays S.dialogues) new (Some f) j (λ v. v ≡ Some d → From S i new o j d)
    (λ nj h. Opened nj (q ∙ h))
    (λ ne h. from_named S i new o j d h) e

pub from : (S : State) (i : Option (List ℕ)) (new : List ℕ) (o : Outcome) (j : List ℕ) (d : Dialogue)
    → new_opens new o.opens (named_stays i o.stays S.dialogues) j ≡ Some d → From S i new o j d
from S i new o j d e = from_new S i new o j d o.opens refl e

-- a dialogue that is neither the new one nor the named one is as it was
named_other : (m : List ℕ → Option Dialogue) (i : Option (List ℕ)) (stays : Option Dialogue) (j : List ℕ) → (i ≡ Some j → ⊥) → named_stays i stays m j ≡ m j
named_other m None stays j h = refl
named_other m (Some k) stays j h = put-other m k stays j (λ e. h (ap (λ (q : List ℕ). Some q) e))

pub opens_other : (m : List ℕ → Option Dialogue) (new : List ℕ) (opens : Option Dialogue) (j : List ℕ) → (IsTrue (is_some opens) → new ≡ j → ⊥)
    → new_opens new opens m j ≡ m j
opens_other m new None j h = refl
opens_other m new (Some d) j h = put-other m new (Some d) j (h refl)

pub others_stay : (S : State) (i : Option (List ℕ)) (new : List ℕ) (o : Outcome) (j : List ℕ) → (i ≡ Some j → ⊥) → (IsTrue (is_some o.opens) → new ≡ j → ⊥)
    → new_opens new o.opens (named_stays i o.stays S.dialogues) j ≡ S.dialogues j
others_stay S i new o j h g = opens_other (named_stays i o.stays S.dialogues) new o.opens j g ∙ named_other S.dialogues i o.stays j h

some_is : {X : Type 0} (o : Option X) (x : X) → o ≡ Some x → IsTrue (is_some o)
some_is o x e = ap (λ q. is_some q) e

is_there : (o : Option Dialogue) → (o ≡ None → ⊥) → (d : Dialogue) × (o ≡ Some d)
is_there None h = absurd (h refl)
is_there (Some d) h = (d, refl)

not_none : (o : Option Dialogue) (d : Dialogue) → o ≡ Some d → o ≡ None → ⊥
not_none o d e n = none_some d o n e

module _ (S : State) (n : ℕ) (x : List ℕ) (i : Option (List ℕ)) (new : List ℕ) (o : Outcome) (began vlr : Option (List ℕ)) (sound : Sound S)
    (good : Good (local_of S n x) S.dialogues i began vlr new o)
    (here : n ≡ shard_of x) (names : NamesOf S x i) (of_shard : IsTrue (is_some o.opens) → IsIdOf n new)
    (is_new : IsTrue (is_some o.opens) → S.dialogues new ≡ None)
    (room : IsTrue (is_some o.opens) → i ≡ None → IsFull S n → ⊥) where
  after : State
  after = moved S (Some x) i new o

  imsi_is : (local_of S n x).imsi ≡ x
  unfolding local_of
  imsi_is = refl

  record_is : (local_of S n x).record_of ≡ S.records x
  unfolding local_of
  record_is = refl

  known_still : (y : List ℕ) → is_some (put S.records x o.after y) ≡ is_some (S.records y)
  known_still y = put_cases S.records x o.after y (λ v. is_some v ≡ is_some (S.records y))
      (λ e. good.known ∙ ap (λ r. is_some r) record_is ∙ ap (λ z. is_some (S.records z)) e) (λ h. refl)

  opened_known : (d : Dialogue) → o.opens ≡ Some d → IsTrue (is_some (S.records x))
  opened_known d e = sym (ap (λ r. is_some r) record_is) ∙ (good.opens d e).1

  sound_dialogue : (j : List ℕ) (d : Dialogue) → From S i new o j d → SoundDialogue (put S.records x o.after) j d
  sound_dialogue j d (Opened nj e) =
      let like : Like (local_of S n x).imsi vlr d = (good.opens d e).0 in
      let sub : d.subscriber ≡ x = like.subscriber ∙ imsi_is in
      record {
        id = subst (λ (k : List ℕ). IsIdOf (shard_of d.subscriber) k) nj
            (subst (λ (m : ℕ). IsIdOf m new) (here ∙ ap shard_of (sym sub)) (of_shard (some_is o.opens d e)));
        has_record = known_still d.subscriber ∙ ap (λ z. is_some (S.records z)) sub ∙ opened_known d e;
        has_sent = like.has_sent;
        rising = like.rising;
      }
  sound_dialogue j d (Stayed ij e) =
      let like : Like (local_of S n x).imsi began d = good.stays d e in
      let sub : d.subscriber ≡ x = like.subscriber ∙ imsi_is in
      let was : (f : Dialogue) × (S.dialogues j ≡ Some f) × (f.subscriber ≡ x) = names j ij in
      let before : SoundDialogue S.records j was.0 = sound.dialogues j was.0 was.1 in
      record {
        id = subst (λ (z : List ℕ). IsIdOf (shard_of z) j) (was.2 ∙ sym sub) before.id;
        has_record = known_still d.subscriber ∙ ap (λ z. is_some (S.records z)) (sub ∙ sym was.2) ∙ before.has_record;
        has_sent = like.has_sent;
        rising = like.rising;
      }
  sound_dialogue j d (Was_there e h) =
      let before : SoundDialogue S.records j d = sound.dialogues j d e in
      record { id = before.id; has_record = known_still d.subscriber ∙ before.has_record; has_sent = before.has_sent; rising = before.rising }

  -- the marked dialogue of another subscriber is neither the new one nor the named one
  other_update : (y : List ℕ) (j : List ℕ) → (x ≡ y → ⊥) → IsUpdateOf y (S.dialogues j)
      → new_opens new o.opens (named_stays i o.stays S.dialogues) j ≡ S.dialogues j
  other_update y j ne u = others_stay S i new o j
      (λ ij. let was : (f : Dialogue) × (S.dialogues j ≡ Some f) × (f.subscriber ≡ x) = names j ij in
      let P : Option Dialogue → Type 0 = λ v. IsUpdateOf y v in
      ne (sym was.2 ∙ (subst P was.1 u).0))
      (λ h nj. let P : Option Dialogue → Type 0 = λ v. IsUpdateOf y v in subst P (ap S.dialogues (sym nj) ∙ is_new h) u)

  sound_record : (y : List ℕ) (s : Subscriber) → put S.records x o.after y ≡ Some s
      → SoundRecord (new_opens new o.opens (named_stays i o.stays S.dialogues)) y s
  sound_record y s = put_cases S.records x o.after y (λ v. v ≡ Some s → SoundRecord (new_opens new o.opens (named_stays i o.stays S.dialogues)) y s)
      (λ xy e. subst (λ z. SoundRecord (new_opens new o.opens (named_stays i o.stays S.dialogues)) z s) (imsi_is ∙ xy) (good.sound is_new s e))
      (λ ne e. record_keeps y S.dialogues (new_opens new o.opens (named_stays i o.stays S.dialogues)) s (sound.records y s e)
      (λ j c u. let P : Option Dialogue → Type 0 = λ v. IsUpdateOf y v in subst P (sym (other_update y j ne u)) u))

  -- what is open afterwards, except the new one, was open
  was_open : (j : List ℕ) (d : Dialogue) → From S i new o j d → (new ≡ j → ⊥) → S.dialogues j ≡ None → ⊥
  was_open j d (Opened nj e) ne z = ne nj
  was_open j d (Stayed ij e) ne z = let was : (f : Dialogue) × (S.dialogues j ≡ Some f) × (f.subscriber ≡ x) = names j ij in none_some was.0 _ z was.1
  was_open j d (Was_there e h) ne z = none_some d _ z e

  -- if nothing opens, all were open
  was_open_all : (opens : o.opens ≡ None) (j : List ℕ) (d : Dialogue) → From S i new o j d → S.dialogues j ≡ None → ⊥
  was_open_all q j d (Opened nj e) z = none_some d _ q e
  was_open_all q j d (Stayed ij e) z = let was : (f : Dialogue) × (S.dialogues j ≡ Some f) × (f.subscriber ≡ x) = names j ij in none_some was.0 _ z was.1
  was_open_all q j d (Was_there e h) z = none_some d _ z e

  Open_after : ℕ → List ℕ → Type 0
  Open_after m j = (shard_of_id j ≡ m) × (new_opens new o.opens (named_stays i o.stays S.dialogues) j ≡ None → ⊥)

  few_after : (m : ℕ) (is : List (List ℕ)) → AreDifferent is → Every
      (λ j. (shard_of_id j ≡ m) × (new_opens new o.opens (named_stays i o.stays S.dialogues) j ≡ None → ⊥)) is → length is ≤ 4096
  few_after m is different open_ones = by_opens o.opens refl
    where
      E : List ℕ → Option Dialogue
      E = new_opens new o.opens (named_stays i o.stays S.dialogues)

      -- without the new id they were open
      rest_open : AreOpen S m (less new is)
      rest_open = record {
        different = different_less new is different;
        open_ones = every_with (λ j. (shard_of_id j ≡ m) × (new_opens new o.opens (named_stays i o.stays S.dialogues) j ≡ None → ⊥)) (λ j. new ≡ j → ⊥)
            (λ j. (shard_of_id j ≡ m) × (S.dialogues j ≡ None → ⊥))
            (λ j h ne. (
              h.0,
              let d : (f : Dialogue) × (new_opens new o.opens (named_stays i o.stays S.dialogues) j ≡ Some f) = is_there _ h.1 in was_open j d.0
                  (from S i new o j d.0 d.1) ne,
            ))
            (less new is) (every_less new _ is open_ones) (none_less new is different);
      }

      all_open : o.opens ≡ None → AreOpen S m is
      all_open q = record {
        different = different;
        open_ones = every_to (λ j. (shard_of_id j ≡ m) × (new_opens new o.opens (named_stays i o.stays S.dialogues) j ≡ None → ⊥))
            (λ j. (shard_of_id j ≡ m) × (S.dialogues j ≡ None → ⊥))
            (λ j h. (
              h.0,
              let d : (f : Dialogue) × (new_opens new o.opens (named_stays i o.stays S.dialogues) j
                  ≡ Some f) = is_there _ h.1 in was_open_all q j d.0 (from S i new o j d.0 d.1),
            )) is open_ones;
      }

      other_shard : IsTrue (is_some o.opens) → (m ≡ n → ⊥) → AreOpen S m is
      other_shard q ne = record {
        different = different;
        open_ones = every_to (λ j. (shard_of_id j ≡ m) × (new_opens new o.opens (named_stays i o.stays S.dialogues) j ≡ None → ⊥))
            (λ j. (shard_of_id j ≡ m) × (S.dialogues j ≡ None → ⊥))
            (λ j h. (
              h.0,
              let d : (f : Dialogue) × (new_opens new o.opens (named_stays i o.stays S.dialogues) j ≡ Some f) = is_there _ h.1 in was_open j d.0
                  (from S i new o j d.0 d.1) (λ nj. ne (sym h.0 ∙ ap shard_of_id (sym nj) ∙ (of_shard q).shard)),
            )) is open_ones;
      }

      full_if : m ≡ n → 4096 ≤ length (less new is) → IsFull S n
      full_if mn h = (
        take 4096 (less new is),
        record {
          different = different_take 4096 (less new is) rest_open.different;
          open_ones = let P : ℕ → Type 0 = λ k. Every (λ j. (shard_of_id j ≡ k) × (S.dialogues j ≡ None → ⊥)) (take 4096 (less new is)) in subst P mn
              (every_take 4096 _ (less new is) rest_open.open_ones);
        },
        length-take-le 4096 (less new is) h,
      )

      named_gone : (d : Dialogue) (k : List ℕ) → o.opens ≡ Some d → i ≡ Some k → m ≡ n → length is ≤ 4096
      named_gone d k q ik mn =
          let was : (f : Dialogue) × (S.dialogues k ≡ Some f) × (f.subscriber ≡ x) = names k ik in
          let before : SoundDialogue S.records k was.0 = sound.dialogues k was.0 was.1 in
          let shard_k : shard_of_id k ≡ m = before.id.shard ∙ ap shard_of was.2 ∙ sym here ∙ sym mn in
          let more : AreOpen S m (k ∷ less new is) = record {
            different = (
              every_with (λ j. (shard_of_id j ≡ m) × (new_opens new o.opens (named_stays i o.stays S.dialogues) j ≡ None → ⊥)) (λ j. new ≡ j → ⊥)
                  (λ j. k ≡ j → ⊥)
                  (λ j h ne kj. h.1 (opens_other (named_stays i o.stays S.dialogues) new o.opens j (λ _. ne) ∙ gone_at j kj)) (less new is)
                  (every_less new _ is open_ones) (none_less new is different),
              rest_open.different,
            );
            open_ones = ((shard_k, λ z. none_some was.0 _ z was.1), rest_open.open_ones);
          } in
          let small : length (k ∷ less new is) ≤ 4096 = sound.few m (k ∷ less new is) more in
          let most : length is ≤ suc (length (less new is)) = length_less new is in
          omega arith
        where
          gone_at : (j : List ℕ) → k ≡ j → named_stays i o.stays S.dialogues j ≡ None
          gone_at j kj = ap (λ (z : Option (List ℕ)). named_stays z o.stays S.dialogues j) ik ∙ put-at S.dialogues k o.stays j kj ∙ good.alone d k q ik

      alone_opens : (d : Dialogue) → o.opens ≡ Some d → i ≡ None → m ≡ n → length is ≤ 4096
      alone_opens d q none mn = go (cases_lt (length (less new is)) 4096)
        where
          go : (length (less new is) < 4096) ⊎ (4096 ≤ length (less new is)) → length is ≤ 4096
          go (inl h) = let most : length is ≤ suc (length (less new is)) = length_less new is in omega arith
          go (inr h) = absurd (room (some_is o.opens d q) none (full_if mn h))

      by_named : (d : Dialogue) → o.opens ≡ Some d → m ≡ n → (k : Option (List ℕ)) → i ≡ k → length is ≤ 4096
      by_named d q mn None ik = alone_opens d q ik mn
      by_named d q mn (Some k) ik = named_gone d k q ik mn

      by_opens : (opens : Option Dialogue) → o.opens ≡ opens → length is ≤ 4096
      by_opens None q = sound.few m is (all_open q)
      by_opens (Some d) q = by_shard (Rattle.std.proofs.lemmas.Bool.cases_eq m n)
        where
          by_shard : (m ≡ n) ⊎ (m ≡ n → ⊥) → length is ≤ 4096
          by_shard (inl mn) = by_named d q mn i refl
          by_shard (inr ne) = sound.few m is (other_shard (some_is o.opens d q) ne)

  pub moved_sound : Sound (moved S (Some x) i new o)
  moved_sound = record {
    dialogues = λ j d e. sound_dialogue j d (from S i new o j d e);
    records = sound_record;
    few = λ m is h. few_after m is h.different h.open_ones;
  }
