-- The subject of a turn is the turn's subscriber, if there is a record.
use Rattle.std.proofs.Common.{◌≡◌, ℕ, List, true, false, refl, sym, ap, Option, Some, None, is_some, IsTrue}
use Rattle.std.proofs.lemmas.Bool.{both_ways}
use Rattle.machine.specs.Turns.{Begins, Changes, Closes, Continues, Dismissed, Expires, Ticks, Turn, concern}
use Rattle.machine.specs.State.{Dialogue, State, Subscriber}
use Rattle.machine.specs.Events.{Event}
use Rattle.machine.specs.Sound.{Sound}
use Rattle.machine.specs.Routing.{subject_of_begin}
use Rattle.machine.specs.Step.{if_known, known_in, subject_of}
use Rattle.machine.specs.Holders.{is_subject}
use Rattle.machine_laws.proofs.Keys.{same_is}
use Rattle.machine_laws.proofs.Views.{View, Idly, Ticking, Beginning, Continuing, Closing, Expiring, Changing}

pub known_is : (x : List ℕ) (r : Option Subscriber) → IsTrue (is_some r) → if_known x r ≡ Some x
known_is x None h = absurd (both_ways false refl h)
known_is x (Some s) h = refl

dialogue_known : (S : State) (i : List ℕ) (d : Dialogue) → Sound S → S.dialogues i ≡ Some d → Some d.subscriber ≡ known_in S (Some d.subscriber)
dialogue_known S i d sound there = sym (known_is d.subscriber (S.records d.subscriber) (sound.dialogues i d there).has_record)

-- in a sound state
pub subject_known : (S : State) (e : Event) (turn : Turn) → Sound S → View S e turn → subject_of S turn ≡ known_in S (concern S.directory turn)
subject_known S e _ sound (Idly out q) = refl
subject_known S e _ sound (Ticking m now q) = refl
subject_known S e _ sound (Beginning from r p cs q) = refl
subject_known S e _ sound (Continuing i d t cs there active v nm r) = dialogue_known S i d sound there
subject_known S e _ sound (Closing i d there v nm r) = dialogue_known S i d sound there
subject_known S e _ sound (Expiring m i d j v q due least) = dialogue_known S i d sound due.is_open
subject_known S e _ sound (Changing y k q) = refl

-- in two states that know the same
pub subject_alike : (S T : State) (turn : Turn) → known_in T (concern T.directory turn) ≡ known_in S (concern S.directory turn)
    → subject_of T turn ≡ subject_of S turn
subject_alike S T (Dismissed out) h = refl
subject_alike S T (Ticks n now) h = refl
subject_alike S T (Begins from r p cs) h = h
subject_alike S T (Continues i d cs) h = refl
subject_alike S T (Closes i d) h = refl
subject_alike S T (Expires i d j was) h = refl
subject_alike S T (Changes x c) h = h

known_concern : (S : State) (x : List ℕ) (c : Option (List ℕ)) → is_subject x (known_in S c) ≡ true → c ≡ Some x
known_concern S x None h = absurd (both_ways false refl h)
known_concern S x (Some y) h = go (S.records y) h
  where
    go : (r : Option Subscriber) → is_subject x (if_known y r) ≡ true → Some y ≡ Some x
    go None q = absurd (both_ways false refl q)
    go (Some s) q = ap (λ (z : List ℕ). Some z) (same_is y x q)

-- the subject is the turn's subscriber
pub subject_concern : (S : State) (x : List ℕ) (turn : Turn) → is_subject x (subject_of S turn) ≡ true → concern S.directory turn ≡ Some x
subject_concern S x (Dismissed out) h = known_concern S x None h
subject_concern S x (Ticks n now) h = known_concern S x None h
subject_concern S x (Begins from r p cs) h = known_concern S x (subject_of_begin S.directory cs) h
subject_concern S x (Continues i d cs) h = ap (λ (z : List ℕ). Some z) (same_is d.subscriber x h)
subject_concern S x (Closes i d) h = ap (λ (z : List ℕ). Some z) (same_is d.subscriber x h)
subject_concern S x (Expires i d j was) h = ap (λ (z : List ℕ). Some z) (same_is d.subscriber x h)
subject_concern S x (Changes y c) h = known_concern S x (Some y) h
