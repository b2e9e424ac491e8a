-- A step in one state is a step in another that agrees with it on what the step reads.
use Rattle.std.proofs.Common.{◌≡◌, ℕ, List, cond, ◌==◌, refl, sym, ap, ◌∙◌, subst, Option, Some, None, is_some}
use Rattle.std.proofs.lemmas.Bool.{ne_eqb}
use Rattle.machine.specs.Step.{Answer, Full, Moves, Step, Taken, TurnedAway, moved, named_stays, new_opens, outcome, outcome_in, seen, subject_of, taken, ticked}
use Rattle.machine.specs.State.{Dialogue, IsFull, IsIdOf, State, local_of}
use Rattle.machine.specs.Events.{Event}
use Rattle.machine.specs.Parts.{Leaves}
use Rattle.machine.specs.Outcome.{Outcome}
use Rattle.machine.specs.Sound.{Sound}
use Rattle.machine.specs.Turns.{Turn, TurnsTo, concern, named}
use Rattle.machine.specs.Keys.{put, put_at, same, shard_of, shard_of_id}
use Rattle.machine.specs.Routing.{route}
use Rattle.machine_laws.proofs.Keys.{put-other}
use Rattle.machine_laws.proofs.Views.{View, view, Idly, Ticking, Beginning, Continuing, Closing, Expiring, Changing}
use Rattle.machine_laws.proofs.Soundness.{others_stay}
use Rattle.machine_laws.proofs.Steps.{Facts, facts, state_of, state_none, outcome_of}

module _ {X : Type 0} where
  pub put_alike : (m l : List ℕ → X) (k : List ℕ) (v : X) (q : List ℕ) → m q ≡ l q → put m k v q ≡ put l k v q
  unfolding put
  put_alike m l k v q e = ap (cond (same k q) v) e

  pub put_at_alike : (m l : ℕ → X) (k : ℕ) (v u : X) (q : ℕ) → v ≡ u → m q ≡ l q → put_at m k v q ≡ put_at l k u q
  unfolding put_at
  put_at_alike m l k v u q d e = ap (λ z. cond (k == q) z (m q)) d ∙ ap (cond (k == q) u) e

  pub put_at_same : (m : ℕ → X) (k : ℕ) (v : X) (q : ℕ) → k ≡ q → put_at m k v q ≡ v
  unfolding put_at
  put_at_same m k v q e = ap (λ b. cond b v (m q)) (Rattle.std.proofs.Common.eq-eqb k q e)

  pub put_at_other : (m : ℕ → X) (k : ℕ) (v : X) (q : ℕ) → (k ≡ q → ⊥) → put_at m k v q ≡ m q
  unfolding put_at
  put_at_other m k v q e = ap (λ b. cond b v (m q)) (ne_eqb k q e)

-- the dialogues after, at one id
pub dialogues_alike : (D E : List ℕ → Option Dialogue) (i : Option (List ℕ)) (new : List ℕ) (stays opens : Option Dialogue) (j : List ℕ) → D j ≡ E j
    → new_opens new opens (named_stays i stays D) j ≡ new_opens new opens (named_stays i stays E) j
dialogues_alike D E i new stays opens j e = by_opens opens
  where
    by_named : (k : Option (List ℕ)) → named_stays k stays D j ≡ named_stays k stays E j
    by_named None = e
    by_named (Some k) = put_alike D E k stays j e

    by_opens : (o : Option Dialogue) → new_opens new o (named_stays i stays D) j ≡ new_opens new o (named_stays i stays E) j
    by_opens None = by_named i
    by_opens (Some d) = put_alike _ _ new (Some d) j (by_named i)

-- what a step may read is the same in both
pub record Alike (S T : State) (e : Event) (turn : Turn) : Type 0 where
  pub comes : TurnsTo T e turn
  pub same_route : route T.directory e ≡ route S.directory e
  pub same_concern : concern T.directory turn ≡ concern S.directory turn
  pub same_seen : seen T (route T.directory e) (concern T.directory turn) ≡ seen S (route S.directory e) (concern S.directory turn)
  pub same_subject : subject_of T turn ≡ subject_of S turn
  pub fresh : (new : List ℕ) → IsIdOf (route S.directory e) new → S.dialogues new ≡ None → T.dialogues new ≡ None
  pub room : IsFull T (route T.directory e) → IsFull S (route S.directory e)

-- the state that the same step leaves
unfoldable pub step_after : State → Event → Turn → List ℕ → State
step_after T e turn new = ticked turn (moved T (concern T.directory turn) (named turn) new (outcome_in T (route T.directory e) turn new))

pub step_after_is : (T : State) (e : Event) (turn : Turn) (new : List ℕ)
    → step_after T e turn new ≡ ticked turn (moved T (concern T.directory turn) (named turn) new (outcome_in T (route T.directory e) turn new))
unfolding step_after
step_after_is T e turn new = refl

pub same_out : (S T : State) (e : Event) (turn : Turn) (new : List ℕ) → Alike S T e turn
    → outcome_in T (route T.directory e) turn new ≡ outcome_in S (route S.directory e) turn new
same_out S T e turn new h = ap (λ L. outcome L turn new) h.same_seen

pub transfer : (S T : State) (e : Event) (turn : Turn) (new : List ℕ) (S' : State) (a : Answer) → Alike S T e turn
    → Moves S (route S.directory e) turn new (outcome_in S (route S.directory e) turn new) S' a → Step T e (step_after T e turn new) a
unfolding step_after
transfer S T e turn new S' a h m =
    let o_is : outcome_in T (route T.directory e) turn new ≡ outcome_in S (route S.directory e) turn new = same_out S T e turn new h in
    let opens_is : is_some (outcome_in T (route T.directory e) turn new).opens
    ≡ is_some (outcome_in S (route S.directory e) turn new).opens = ap (λ (o : Outcome). is_some o.opens) o_is in
    Taken turn new h.comes (record {
      opens = λ t. record {
        of_shard = subst (λ n. IsIdOf n new) (sym h.same_route) (m.opens (sym opens_is ∙ t)).of_shard;
        is_new = h.fresh new (m.opens (sym opens_is ∙ t)).of_shard (m.opens (sym opens_is ∙ t)).is_new;
      };
      room = λ w. m.room (record { opens = sym opens_is ∙ w.opens; beside = w.beside; full = h.room w.full });
      state = refl;
      id = m.id ∙ ap (λ (o : Outcome). taken new o.opens) (sym o_is);
      subject = m.subject ∙ sym h.same_subject;
      sent = m.sent ∙ ap (λ (o : Outcome). o.sent) (sym o_is);
    })

pub transfer_full : (S T : State) (e : Event) (turn : Turn) (new : List ℕ) (S' : State) (a : Answer) → Alike S T e turn
    → (IsFull S (route S.directory e) → IsFull T (route T.directory e))
    → TurnedAway S (route S.directory e) turn (outcome_in S (route S.directory e) turn new) S' a → Step T e T a
transfer_full S T e turn new S' a h full t =
    let o_is : outcome_in T (route T.directory e) turn new ≡ outcome_in S (route S.directory e) turn new = same_out S T e turn new h in
    Full turn new h.comes (record {
      from = t.from;
      origin = t.origin;
      name = t.name;
      components = t.components;
      begins = t.begins;
      overflows = record { opens = ap (λ (o : Outcome). is_some o.opens) o_is ∙ t.overflows.opens; beside = t.overflows.beside; full = full t.overflows.full };
      state = refl;
      id = t.id;
      subject = t.subject ∙ sym h.same_subject;
      sent = t.sent;
    })

-- what a step leaves alone

leaves_same : (S T : State) (n : ℕ) → T ≡ S → Leaves S T n
leaves_same S T n e = record {
  records = λ x h. ap (λ (U : State). U.records x) e;
  dialogues = λ i h. ap (λ (U : State). U.dialogues i) e;
  clocks = λ m h. ap (λ (U : State). U.clocks m) e;
  directory = ap (λ (U : State). U.directory) e;
  hlr = ap (λ (U : State). U.hlr) e;
}

-- without a subscriber
leaves_ticked : (S : State) (e : Event) (turn : Turn) → View S e turn → Leaves S (ticked turn S) (route S.directory e)
leaves_ticked S e _ (Idly out q) = leaves_same S S _ refl
leaves_ticked S e _ (Ticking m now q) = record {
  records = λ x h. refl;
  dialogues = λ i h. refl;
  clocks = λ k h. put_at_other S.clocks m _ k (λ mk. h (sym mk ∙ sym (ap (λ f. route S.directory f) q)));
  directory = refl;
  hlr = refl;
}
leaves_ticked S e _ (Beginning from r p cs q) = leaves_same S S _ refl
leaves_ticked S e _ (Continuing i d t cs there active v nm r) = leaves_same S S _ refl
leaves_ticked S e _ (Closing i d there v nm r) = leaves_same S S _ refl
leaves_ticked S e _ (Expiring m i d j v q due least) = leaves_same S S _ refl
leaves_ticked S e _ (Changing y k q) = leaves_same S S _ refl

leaves_moved : (S : State) (e : Event) (turn : Turn) (new x : List ℕ) (T : State) (a : Answer) → Sound S → View S e turn → concern S.directory turn ≡ Some x
    → Moves S (route S.directory e) turn new (outcome_in S (route S.directory e) turn new) T a → Leaves S T (route S.directory e)
leaves_moved S e turn new x T a sound v c m =
    let n : ℕ = route S.directory e in
    let o : Outcome = outcome (local_of S n x) turn new in
    let f : Facts S e turn x new n = facts S e turn x new n sound v c in
    let state : T ≡ moved S (Some x) (named turn) new o = state_of S e turn x new T a c m in
    let o_is : outcome_in S n turn new ≡ o = outcome_of S n turn x new c in
    record {
      records = λ y h. ap (λ (U : State). U.records y) state ∙ put-other S.records x o.after y (λ xy. h (ap shard_of (sym xy) ∙ sym f.here));
      dialogues = λ j h. ap (λ (U : State). U.dialogues j) state ∙ others_stay S (named turn) new o j
          (λ ij. let was : (d : Dialogue) × (S.dialogues j ≡ Some d) × (d.subscriber ≡ x) = f.names j ij in
          h ((sound.dialogues j was.0 was.1).id.shard ∙ ap shard_of was.2 ∙ sym f.here))
          (λ t nj. h (ap shard_of_id (sym nj) ∙ (m.opens (ap (λ (q : Outcome). is_some q.opens) o_is ∙ t)).of_shard.shard));
      clocks = λ k h. ap (λ (U : State). U.clocks k) state;
      directory = ap (λ (U : State). U.directory) state;
      hlr = ap (λ (U : State). U.hlr) state;
    }

pub step_leaves : (S : State) (e : Event) (T : State) (a : Answer) → Sound S → Step S e T a → Leaves S T (route S.directory e)
step_leaves S e T a sound (Taken turn new comes m) = go (concern S.directory turn) refl
  where
    go : (c : Option (List ℕ)) → concern S.directory turn ≡ c → Leaves S T (route S.directory e)
    go None c = subst (λ U. Leaves S U (route S.directory e)) (sym (state_none S e turn new T a c m)) (leaves_ticked S e turn (view S e turn comes))
    go (Some x) c = leaves_moved S e turn new x T a sound (view S e turn comes) c m
step_leaves S e T a sound (Full turn new comes t) = leaves_same S T _ t.state
