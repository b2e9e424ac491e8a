-- No event changes an open dialogue that it does not name.
use Rattle.std.proofs.Common.{◌≡◌, ℕ, List, refl, sym, ap, ◌∙◌, subst, Option, Some, None}
use Rattle.machine.specs.Step.{Answer, Full, Step, Taken, moved, outcome_in, ticked}
use Rattle.machine.specs.Turns.{Begins, Changes, Closes, Continues, Dismissed, Expires, Ticks, Turn, concern, named}
use Rattle.machine.specs.Events.{Clock, Event, Expire, Frame, Operator}
use Rattle.machine.specs.State.{Dialogue, State}
use Rattle.machine.specs.Holders.{IsNamed, names}
use Rattle.machine.specs.Outcome.{Outcome}
use Rattle.machine.specs.Routing.{route}
use Rattle.machine_laws.proofs.Keys.{none_some, some_inj}
use Rattle.machine_laws.proofs.Views.{View, view, Idly, Ticking, Beginning, Continuing, Closing, Expiring, Changing}
use Rattle.machine_laws.proofs.Soundness.{others_stay}

named_frame : (S : State) (e : Event) (j : List ℕ) → names e ≡ Some j → IsNamed S e j
named_frame S (Frame from v) j q = q
named_frame S (Clock n now) j q = absurd (none_some j None refl q)
named_frame S (Expire n) j q = absurd (none_some j None refl q)
named_frame S (Operator x c) j q = absurd (none_some j None refl q)

-- the dialogue that the turn names is the one that the event names
names_it : (S : State) (e : Event) (turn : Turn) (j : List ℕ) → View S e turn → named turn ≡ Some j → IsNamed S e j
names_it S e _ j (Idly out q) n = absurd (none_some j None refl n)
names_it S e _ j (Ticking m now q) n = absurd (none_some j None refl n)
names_it S e _ j (Beginning from r p cs q) n = absurd (none_some j None refl n)
names_it S e _ j (Continuing i d t cs there active v nm r) n = named_frame S e j (nm ∙ n)
names_it S e _ j (Closing i d there v nm r) n = named_frame S e j (nm ∙ n)
names_it S e _ j (Expiring m i d k v q due least) n = let P : Event → Type 0 = λ f. IsNamed S f j in subst P (sym q)
    (let Q : List ℕ → Type 0 = λ h. IsNamed S (Expire m) h in subst Q (some_inj i j _ refl n) (d, k, v, due, least))
names_it S e _ j (Changing y k q) n = absurd (none_some j None refl n)

pub ticked_there : (U : State) (turn : Turn) → (ticked turn U).dialogues ≡ U.dialogues
ticked_there U (Dismissed out) = refl
ticked_there U (Ticks n now) = refl
ticked_there U (Begins from r p cs) = refl
ticked_there U (Continues i d cs) = refl
ticked_there U (Closes i d) = refl
ticked_there U (Expires i d j was) = refl
ticked_there U (Changes y k) = refl

pub unnamed_stays : (S : State) (e : Event) (T : State) (a : Answer) (j : List ℕ) (d : Dialogue) → Step S e T a → S.dialogues j ≡ Some d → (IsNamed S e j → ⊥)
    → T.dialogues j ≡ Some d
unnamed_stays S e T a j d (Full turn new comes t) there h = ap (λ (U : State). U.dialogues j) t.state ∙ there
unnamed_stays S e T a j d (Taken turn new comes m) there h =
    ap (λ (U : State). U.dialogues j) m.state ∙ ap (λ (f : List ℕ → Option Dialogue). f j) (ticked_there _ turn) ∙ stays (concern S.directory turn) ∙ there
  where
    o : Outcome
    o = outcome_in S (route S.directory e) turn new

    stays : (c : Option (List ℕ)) → (moved S c (named turn) new (outcome_in S (route S.directory e) turn new)).dialogues j ≡ S.dialogues j
    stays None = refl
    stays (Some x) = others_stay S (named turn) new (outcome_in S (route S.directory e) turn new) j
        (λ n. h (names_it S e turn j (view S e turn comes) n))
        (λ t nj. none_some d _ (ap S.dialogues (sym nj) ∙ (m.opens t).is_new) there)
