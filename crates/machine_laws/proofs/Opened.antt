-- Which dialogue a step opens.
use Rattle.std.proofs.Common.{◌≡◌, ℕ, List, refl, sym, ap, ◌∙◌, subst, Option, Some, None, is_some}
use Rattle.machine.specs.Step.{Answer, Full, IsNewId, Step, Taken, moved, outcome_in, taken}
use Rattle.machine.specs.State.{Dialogue, State}
use Rattle.machine.specs.Events.{Event}
use Rattle.machine.specs.Turns.{Turn, concern, named}
use Rattle.machine.specs.Routing.{route}
use Rattle.machine_laws.proofs.Keys.{none_some, some_inj}
use Rattle.machine_laws.proofs.Views.{View, view, Idly, Ticking, Beginning, Continuing, Closing, Expiring, Changing}
use Rattle.machine_laws.proofs.Soundness.{From, from, Opened, Stayed, Was_there}
use Rattle.machine_laws.proofs.Naming.{ticked_there}

-- what is named is open
named_open : (S : State) (e : Event) (turn : Turn) (j : List ℕ) → View S e turn → named turn ≡ Some j → S.dialogues j ≡ None → ⊥
named_open S e _ j (Idly out q) n z = none_some j None refl n
named_open S e _ j (Ticking m now q) n z = none_some j None refl n
named_open S e _ j (Beginning from r p cs q) n z = none_some j None refl n
named_open S e _ j (Continuing i d t cs there active v nm r) n z = none_some d _ (ap S.dialogues (some_inj i j _ refl n) ∙ z) there
named_open S e _ j (Closing i d there v nm r) n z = none_some d _ (ap S.dialogues (some_inj i j _ refl n) ∙ z) there
named_open S e _ j (Expiring m i d k v q due least) n z = none_some d _ (ap S.dialogues (some_inj i j _ refl n) ∙ z) due.is_open
named_open S e _ j (Changing y k q) n z = none_some j None refl n

-- a dialogue that is open after, and was not, has the id that was taken
pub opened_taken : (S : State) (e : Event) (T : State) (a : Answer) (i : List ℕ) (d : Dialogue) → Step S e T a → S.dialogues i ≡ None → T.dialogues i ≡ Some d
    → a.id ≡ Some i
opened_taken S e T a i d (Full turn new comes t) z h = absurd (none_some d _ (ap (λ (U : State). U.dialogues i) t.state ∙ z) h)
opened_taken S e T a i d (Taken turn new comes m) z h = by (concern S.directory turn)
    (ap (λ (U : State). U.dialogues i) m.state ∙ ap (λ (f : List ℕ → Option Dialogue). f i) (ticked_there _ turn))
  where
    of : From S (named turn) new (outcome_in S (route S.directory e) turn new) i d → a.id ≡ Some i
    of (Opened ni q) = m.id ∙ ap (λ o. taken new o) q ∙ ap (λ (k : List ℕ). Some k) ni
    of (Stayed ni q) = absurd (named_open S e turn i (view S e turn comes) ni z)
    of (Was_there q ne) = absurd (none_some d _ z q)

    by : (c : Option (List ℕ)) → T.dialogues i ≡ (moved S c (named turn) new (outcome_in S (route S.directory e) turn new)).dialogues i → a.id ≡ Some i
    by None q = absurd (none_some d _ (q ∙ z) h)
    by (Some x) q = of (from S (named turn) new (outcome_in S (route S.directory e) turn new) i d (sym q ∙ h))

-- an id that is taken is new
pub taken_free : (S : State) (e : Event) (T : State) (a : Answer) (i : List ℕ) → Step S e T a → a.id ≡ Some i → IsNewId S (route S.directory e) i
taken_free S e T a i (Full turn new comes t) h = absurd (none_some i _ t.id h)
taken_free S e T a i (Taken turn new comes m) h = by (outcome_in S (route S.directory e) turn new).opens refl
  where
    by : (o : Option Dialogue) → (outcome_in S (route S.directory e) turn new).opens ≡ o → IsNewId S (route S.directory e) i
    by None q = absurd (none_some i _ (m.id ∙ ap (λ o. taken new o) q) h)
    by (Some d) q =
        let same_id : new ≡ i = some_inj new i _ (m.id ∙ ap (λ o. taken new o) q) h in
        subst (λ k. IsNewId S (route S.directory e) k) same_id (m.opens (ap (λ o. is_some o) q))
