-- A step of shard n reads and changes what is of shard n alone.
use Rattle.std.proofs.Common.{◌≡◌, ◌^◌, min, max, ◌≤◌, ℕ, ℤ, List, [], Bool, true, false, cond, refl, sym, ap, ◌∙◌, subst, ◌⊎◌, inl, inr, Option, Some, None}
use Rattle.std.proofs.lemmas.Bool.{cases_eq}
use Rattle.machine.specs.Received.{Abort, Begin, Continue, Discard, End, Message, Read, Refuse, Verdict}
use Rattle.machine.specs.Step.{Answer, Full, Step, Taken, if_known, known_in, moved, outcome_in, seen, ticked}
use Rattle.machine.specs.Events.{Clock, Event, Expire, Frame, Operator}
use Rattle.machine.specs.State.{Dialogue, Invocation, IsFull, State, if_of, local_of, local_of_nobody}
use Rattle.machine.specs.Turns.{Expiry, IsDue, IsLeast, NoneDue, OneDue, Turn, TurnsTo, close_at, concern, continue_at, named, turn_of_message, turn_of_verdict}
use Rattle.machine.specs.Outcome.{Outcome}
use Rattle.machine.specs.Sound.{Sound}
use Rattle.machine.specs.Routing.{route, route_message, route_verdict, shard_named}
use Rattle.machine.specs.Keys.{same, shard_of, shard_of_id}
use Rattle.machine_laws.proofs.Keys.{same_is}
use Rattle.machine_laws.proofs.Counting.{every_to}
use Rattle.machine_laws.proofs.Views.{View, view, Idly, Ticking, Beginning, Continuing, Closing, Expiring, Changing}
use Rattle.machine_laws.proofs.Steps.{facts}
use Rattle.machine_laws.proofs.Transfer.{Alike, transfer, transfer_full, step_after, same_out, put_alike, put_at_alike, dialogues_alike}
use Rattle.machine_laws.proofs.Subjects.{subject_alike}

-- two states have the same of shard n
pub record AgreeOn (n : ℕ) (S T : State) : Type 0 where
  pub records : (x : List ℕ) → shard_of x ≡ n → T.records x ≡ S.records x
  pub dialogues : (i : List ℕ) → shard_of_id i ≡ n → T.dialogues i ≡ S.dialogues i
  pub clock : T.clocks n ≡ S.clocks n
  pub directory : T.directory ≡ S.directory
  pub hlr : T.hlr ≡ S.hlr

pub agree_sym : (n : ℕ) (S T : State) → AgreeOn n S T → AgreeOn n T S
agree_sym n S T h = record {
  records = λ x e. sym (h.records x e);
  dialogues = λ i e. sym
      (h.dialogues i e);
  clock = sym h.clock;
  directory = sym h.directory;
  hlr = sym h.hlr;
}

none_of : (o : Option Dialogue) → ((d : Dialogue) → o ≡ Some d → ⊥) → o ≡ None
none_of None h = refl
none_of (Some d) h = absurd (h d refl)

none_there : (S : State) (i : List ℕ) → Sound S → (shard_named i ≡ shard_of_id i → ⊥) → S.dialogues i ≡ None
none_there S i sound h = none_of (S.dialogues i) (λ d e. h (named_right d e))
  where
    named_right : (d : Dialogue) → S.dialogues i ≡ Some d → shard_named i ≡ shard_of_id i
    named_right d e = Rattle.machine_laws.proofs.Steps.shard_named_is S i d sound e ∙ sym (sound.dialogues i d e).id.shard

-- the dialogue that a frame of shard n names
named_alike : (n : ℕ) (S T : State) (i : List ℕ) → Sound S → Sound T → AgreeOn n S T → shard_named i ≡ n → T.dialogues i ≡ S.dialogues i
named_alike n S T i sound sound' h e = go (cases_eq (shard_of_id i) n)
  where
    go : (shard_of_id i ≡ n) ⊎ (shard_of_id i ≡ n → ⊥) → T.dialogues i ≡ S.dialogues i
    go (inl q) = h.dialogues i q
    go (inr ne) = none_there T i sound' (λ q. ne (sym q ∙ e)) ∙ sym (none_there S i sound (λ q. ne (sym q ∙ e)))

-- the dialogues of a subscriber of shard n
of_alike : (n : ℕ) (S T : State) (x : List ℕ) → Sound S → Sound T → AgreeOn n S T → shard_of x ≡ n → (i : List ℕ)
    → if_of x (T.dialogues i) ≡ if_of x (S.dialogues i)
of_alike n S T x sound sound' h e i = go (cases_eq (shard_of_id i) n)
  where
    others : (U : State) → Sound U → (shard_of_id i ≡ n → ⊥) → if_of x (U.dialogues i) ≡ None
    others U s ne = by (U.dialogues i) refl
      where
        by : (o : Option Dialogue) → U.dialogues i ≡ o → if_of x o ≡ None
        by None q = refl
        by (Some d) q = of (same d.subscriber x) refl
          where
            of : (t : Bool) → same d.subscriber x ≡ t → cond t (Some d) None ≡ None
            of true r = absurd (ne ((s.dialogues i d q).id.shard ∙ ap shard_of (same_is _ _ r) ∙ e))
            of false r = refl

    go : (shard_of_id i ≡ n) ⊎ (shard_of_id i ≡ n → ⊥) → if_of x (T.dialogues i) ≡ if_of x (S.dialogues i)
    go (inl q) = ap (λ o. if_of x o) (h.dialogues i q)
    go (inr ne) = others T sound' ne ∙ sym (others S sound ne)

pub local_is : (S T : State) (n m : ℕ) (x : List ℕ) → n ≡ m → T.records x ≡ S.records x → ((i : List ℕ) → if_of x (T.dialogues i) ≡ if_of x (S.dialogues i))
    → T.clocks n ≡ S.clocks m → T.hlr ≡ S.hlr → local_of T n x ≡ local_of S m x
unfolding local_of
local_is S T n m x nm r d c h = λ k. record { imsi = x; record_of = r k; dialogues = λ i. d i k; clock = c k; hlr = h k }

pub nobody_is : (S T : State) (n m : ℕ) → T.clocks n ≡ S.clocks m → T.hlr ≡ S.hlr → local_of_nobody T n ≡ local_of_nobody S m
unfolding local_of_nobody
nobody_is S T n m c h = λ k. record { imsi = []; record_of = None; dialogues = λ i. None; clock = c k; hlr = h k }

due_alike : (n : ℕ) (S T : State) (i : List ℕ) (d : Dialogue) (j : ℤ) (v : Invocation) → AgreeOn n S T → IsDue S n i d j v → IsDue T n i d j v
due_alike n S T i d j v h due = record {
  of_shard = due.of_shard;
  is_open = h.dialogues i due.of_shard
      ∙ due.is_open;
  stands = due.stands;
  due = subst (λ c. v.deadline ≤ c) (sym h.clock) due.due;
}

least_alike : (n : ℕ) (S T : State) (t : ℕ) (i : List ℕ) (j : ℤ) → AgreeOn n S T → IsLeast S n t i j → IsLeast T n t i j
least_alike n S T t i j h least i' d' j' v' due = least i' d' j' v' (due_alike n T S i' d' j' v' (agree_sym n S T h) due)

expiry_alike : (n : ℕ) (S T : State) (turn : Turn) → AgreeOn n S T → Expiry S n turn → Expiry T n turn
expiry_alike n S T turn h (OneDue i d j v due least is) = OneDue i d j v (due_alike n S T i d j v h due) (least_alike n S T v.deadline i j h least) is
expiry_alike n S T turn h (NoneDue none is) = NoneDue (λ i d j v due. none i d j v (due_alike n T S i d j v (agree_sym n S T h) due)) is

message_alike : (n : ℕ) (S T : State) (from : List ℕ) (m : Message) → Sound S → Sound T → AgreeOn n S T → route_message S.directory m ≡ n
    → turn_of_message T.dialogues from m ≡ turn_of_message S.dialogues from m
message_alike n S T from (Begin r p cs) sound sound' h e = refl
message_alike n S T from (Continue r i p cs) sound sound' h e = ap (λ o. continue_at from r i cs o) (named_alike n S T i sound sound' h e)
message_alike n S T from (End i p cs) sound sound' h e = ap (λ o. close_at i o) (named_alike n S T i sound sound' h e)
message_alike n S T from (Abort i) sound sound' h e = ap (λ o. close_at i o) (named_alike n S T i sound sound' h e)

verdict_alike : (n : ℕ) (S T : State) (from : List ℕ) (v : Verdict) → Sound S → Sound T → AgreeOn n S T → route_verdict S.directory v ≡ n
    → turn_of_verdict T.dialogues from v ≡ turn_of_verdict S.dialogues from v
verdict_alike n S T from Discard sound sound' h e = refl
verdict_alike n S T from (Refuse r c) sound sound' h e = refl
verdict_alike n S T from (Read m) sound sound' h e = message_alike n S T from m sound sound' h e

comes_alike : (n : ℕ) (S T : State) (e : Event) (turn : Turn) → Sound S → Sound T → AgreeOn n S T → route S.directory e ≡ n → TurnsTo S e turn
    → TurnsTo T e turn
comes_alike n S T (Frame from v) turn sound sound' h r c = c ∙ sym (verdict_alike n S T from v sound sound' h r)
comes_alike n S T (Clock m now) turn sound sound' h r c = c
comes_alike n S T (Expire m) turn sound sound' h r c = expiry_alike m S T turn (subst (λ k. AgreeOn k S T) (sym r) h) c
comes_alike n S T (Operator x k) turn sound sound' h r c = c

open_alike : (n : ℕ) (S T : State) → AgreeOn n S T → IsFull T n → IsFull S n
open_alike n S T h (is, o, len) = (
  is,
  record {
    different = o.different;
    open_ones = every_to (λ i. (shard_of_id i ≡ n) × (T.dialogues i ≡ None → ⊥))
        (λ i. (shard_of_id i ≡ n) × (S.dialogues i ≡ None → ⊥)) (λ i q. (q.0, λ z. q.1 (h.dialogues i q.0 ∙ z))) is o.open_ones;
  },
  len,
)

-- the turn's subscriber is of the shard
concern_shard : (S : State) (e : Event) (turn : Turn) (x : List ℕ) → Sound S → View S e turn → concern S.directory turn ≡ Some x
    → shard_of x ≡ route S.directory e
concern_shard S e turn x sound v c = sym (facts S e turn x [] (route S.directory e) sound v c).here

pub agree_alike : (n : ℕ) (S T : State) (e : Event) (turn : Turn) → Sound S → Sound T → AgreeOn n S T → route S.directory e ≡ n → TurnsTo S e turn
    → Alike S T e turn
agree_alike n S T e turn sound sound' h r c = record {
  comes = comes_alike n S T e turn sound sound' h r c;
  same_route = routes;
  same_concern = concerns;
  same_seen = seen_same (concern S.directory turn) refl;
  same_subject = subject_alike S T turn (ap (λ o. known_in T o) concerns ∙ subject_same (concern S.directory turn) refl);
  fresh = λ new id none. h.dialogues new (id.shard ∙ r) ∙ none;
  room = λ full. subst (λ m. IsFull S m) (sym r) (open_alike n S T h (subst (λ m. IsFull T m) (routes ∙ r) full));
}
  where
    routes : route T.directory e ≡ route S.directory e
    routes = ap (λ d. route d e) h.directory

    concerns : concern T.directory turn ≡ concern S.directory turn
    concerns = ap (λ d. concern d turn) h.directory

    clocks_same : T.clocks (route T.directory e) ≡ S.clocks (route S.directory e)
    clocks_same = ap T.clocks (routes ∙ r) ∙ h.clock ∙ ap S.clocks (sym r)

    seen_same : (o : Option (List ℕ)) → concern S.directory turn ≡ o
        → seen T (route T.directory e) (concern T.directory turn) ≡ seen S (route S.directory e) (concern S.directory turn)
    seen_same None q = ap (λ o. seen T (route T.directory e) o) (concerns ∙ q) ∙ nobody_is S T (route T.directory e) (route S.directory e) clocks_same h.hlr
        ∙ ap (λ o. seen S (route S.directory e) o) (sym q)
    seen_same (Some x) q =
        let in_shard : shard_of x ≡ n = concern_shard S e turn x sound (view S e turn c) q ∙ r in
        ap (λ o. seen T (route T.directory e) o) (concerns ∙ q)
        ∙ local_is S T (route T.directory e) (route S.directory e) x routes (h.records x in_shard) (of_alike n S T x sound sound' h in_shard) clocks_same h.hlr
        ∙ ap (λ o. seen S (route S.directory e) o) (sym q)

    subject_same : (o : Option (List ℕ)) → concern S.directory turn ≡ o → known_in T (concern S.directory turn) ≡ known_in S (concern S.directory turn)
    subject_same None q = ap (λ o. known_in T o) q ∙ ap (λ o. known_in S o) (sym q)
    subject_same (Some x) q =
        let in_shard : shard_of x ≡ n = concern_shard S e turn x sound (view S e turn c) q ∙ r in
        ap (λ o. known_in T o) q ∙ ap (λ o. if_known x o) (h.records x in_shard) ∙ ap (λ o. known_in S o) (sym q)

-- the same moves keep the agreement
agree_moved : (n : ℕ) (S T : State) (c i : Option (List ℕ)) (new : List ℕ) (o : Outcome) → AgreeOn n S T → AgreeOn n (moved S c i new o) (moved T c i new o)
agree_moved n S T None i new o h = h
agree_moved n S T (Some x) i new o h = record {
  records = λ y e. put_alike T.records S.records x o.after y (h.records y e);
  dialogues = λ j e. dialogues_alike T.dialogues S.dialogues i new o.stays o.opens j (h.dialogues j e);
  clock = h.clock;
  directory = h.directory;
  hlr = h.hlr;
}

agree_ticked : (n : ℕ) (S U V : State) (e : Event) (turn : Turn) → View S e turn → route S.directory e ≡ n → AgreeOn n U V
    → AgreeOn n (ticked turn U) (ticked turn V)
agree_ticked n S U V e _ (Idly out q) r h = h
agree_ticked n S U V e _ (Ticking m now q) r h =
    let mn : m ≡ n = sym (ap (λ f. route S.directory f) q) ∙ r in
    record {
      records = h.records;
      dialogues = h.dialogues;
      clock = put_at_alike V.clocks U.clocks m _ _ n (ap (λ t. max t (min now (2 ^ 62))) (ap V.clocks mn ∙ h.clock ∙ ap U.clocks (sym mn))) h.clock;
      directory = h.directory;
      hlr = h.hlr;
    }
agree_ticked n S U V e _ (Beginning from r' p cs q) r h = h
agree_ticked n S U V e _ (Continuing i d t cs there active v nm r') r h = h
agree_ticked n S U V e _ (Closing i d there v nm r') r h = h
agree_ticked n S U V e _ (Expiring m i d j v q due least) r h = h
agree_ticked n S U V e _ (Changing y k q) r h = h

-- the step in a state that agrees: it exists, and the states agree afterwards
pub record Again (n : ℕ) (T S' : State) (e : Event) (a : Answer) : Type 0 where
  pub state : State
  pub step : Step T e state a
  pub agree : AgreeOn n S' state

agree_states : (n : ℕ) (S T : State) (e : Event) (turn : Turn) (new : List ℕ) → View S e turn → Alike S T e turn → route S.directory e ≡ n → AgreeOn n S T
    → AgreeOn n (step_after S e turn new) (step_after T e turn new)
unfolding step_after
agree_states n S T e turn new v alike r h =
    let o_is : outcome_in T (route T.directory e) turn new ≡ outcome_in S (route S.directory e) turn new = same_out S T e turn new alike in
    let c_is : concern T.directory turn ≡ concern S.directory turn = alike.same_concern in
    let in_one : AgreeOn n (ticked turn (moved S (concern S.directory turn) (named turn) new (outcome_in S (route S.directory e) turn new)))
    (ticked turn (moved T (concern S.directory turn) (named turn) new (outcome_in S (route S.directory e) turn new))) =
    go v in
    subst (λ U. AgreeOn n (ticked turn (moved S (concern S.directory turn) (named turn) new (outcome_in S (route S.directory e) turn new))) U)
    (ap (λ q. ticked turn (moved T q (named turn) new (outcome_in S (route S.directory e) turn new))) (sym c_is)
    ∙ ap (λ o. ticked turn (moved T (concern T.directory turn) (named turn) new o)) (sym o_is))
    in_one
  where
    both : AgreeOn n (moved S (concern S.directory turn) (named turn) new (outcome_in S (route S.directory e) turn new))
        (moved T (concern S.directory turn) (named turn) new (outcome_in S (route S.directory e) turn new))
    both = agree_moved n S T (concern S.directory turn) (named turn) new (outcome_in S (route S.directory e) turn new) h

    go : View S e turn → AgreeOn n (ticked turn (moved S (concern S.directory turn) (named turn) new (outcome_in S (route S.directory e) turn new)))
        (ticked turn (moved T (concern S.directory turn) (named turn) new (outcome_in S (route S.directory e) turn new)))
    go w = agree_ticked n S _ _ e turn w r both

pub step_again : (n : ℕ) (S T S' : State) (e : Event) (a : Answer) → Sound S → Sound T → AgreeOn n S T → route S.directory e ≡ n → Step S e S' a
    → Again n T S' e a
unfolding step_after
step_again n S T S' e a sound sound' h r (Taken turn new comes m) =
    let alike : Alike S T e turn = agree_alike n S T e turn sound sound' h r comes in
    record {
      state = step_after T e turn new;
      step = transfer S T e turn new S' a alike m;
      agree = subst (λ U. AgreeOn n U (step_after T e turn new)) (sym m.state) (agree_states n S T e turn new (view S e turn comes) alike r h);
    }
step_again n S T S' e a sound sound' h r (Full turn new comes t) =
    let alike : Alike S T e turn = agree_alike n S T e turn sound sound' h r comes in
    record {
      state = T;
      step = transfer_full S T e turn new S' a alike (λ full. subst (λ m. IsFull T m) (sym (alike.same_route ∙ r))
          (open_alike n T S (agree_sym n S T h) (subst (λ m. IsFull S m) r full))) t;
      agree = subst (λ U. AgreeOn n U T) (sym t.state) h;
    }
