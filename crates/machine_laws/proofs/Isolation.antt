-- One subscriber's own entries are a run from that subscriber's own part.
use Rattle.std.proofs.Common.{◌≡◌, ◌^◌, min, max, ◌≤◌, ℕ, ℤ, List, Bool, true, false, cond, ◌&&◌, refl, sym, ap, ◌∙◌, subst, ◌⊎◌, inl, inr, Option, Some, None, is_some, IsTrue}
use Rattle.std.proofs.lemmas.Bool.{both_ways, and_from}
use Rattle.machine.specs.Received.{Abort, Begin, Component, Continue, Discard, End, Message, Read, Refuse, Verdict}
use Rattle.machine.specs.Isolation.{AgreeOf, SameAfter, is_clock, is_of, is_turned_away}
use Rattle.machine.specs.Step.{Answer, Full, Moves, Step, Taken, if_known, known_in, moved, named_stays, new_opens, outcome, outcome_in, seen, ticked}
use Rattle.machine.specs.Turns.{Begins, Changes, Closes, Continues, Dismissed, Expires, Expiry, IsDue, NoneDue, OneDue, Ticks, Turn, TurnsTo, close_at, concern, continue_at, continue_for, for_it, named, turn_of_message, turn_of_verdict}
use Rattle.machine.specs.Events.{Clock, Event, Expire, Frame, Operator}
use Rattle.machine.specs.Transactions.{ContinueComes, transact}
use Rattle.machine.specs.State.{Dialogue, Invocation, IsFull, State, Subscriber, Transaction, if_of, local_of}
use Rattle.machine.specs.Keys.{put, same, shard_of_id}
use Rattle.machine.specs.Sound.{Sound}
use Rattle.machine.specs.Outcome.{Outcome}
use Rattle.machine.specs.Holders.{is_subject, names}
use Rattle.machine.specs.Routing.{route}
use Rattle.machine_laws.proofs.Keys.{none_some, some_inj, put-other, put-at, cases_same, not_same, same_is, is_same}
use Rattle.machine_laws.proofs.Counting.{every_to}
use Rattle.machine_laws.proofs.Outcomes.{Good}
use Rattle.machine_laws.proofs.Views.{View, view, Idly, Ticking, Beginning, Continuing, Closing, Expiring, Changing}
use Rattle.machine_laws.proofs.Soundness.{From, from, Opened, Stayed, Was_there, others_stay}
use Rattle.machine_laws.proofs.Steps.{Facts, facts, state_of, state_none, outcome_of}
use Rattle.machine_laws.proofs.Transfer.{Alike, transfer, step_after, same_out, put_alike, put_at_alike}
use Rattle.machine_laws.proofs.Parts.{local_is, nobody_is}
use Rattle.machine_laws.proofs.Subjects.{subject_known, subject_alike, subject_concern}

-- a dialogue of x

pub if_of_at : (x : List ℕ) (o : Option Dialogue) (d : Dialogue) → o ≡ Some d → d.subscriber ≡ x → if_of x o ≡ Some d
if_of_at x o d e s = ap (λ q. if_of x q) e ∙ ap (λ b. cond b (Some d) None) (is_same d.subscriber x s)

if_of_not : (x : List ℕ) (o : Option Dialogue) (d : Dialogue) → o ≡ Some d → (d.subscriber ≡ x → ⊥) → if_of x o ≡ None
if_of_not x o d e s = ap (λ q. if_of x q) e ∙ ap (λ b. cond b (Some d) None) (not_same d.subscriber x s)

pub if_of_is : (x : List ℕ) (o : Option Dialogue) (d : Dialogue) → if_of x o ≡ Some d → (o ≡ Some d) × (d.subscriber ≡ x)
if_of_is x None d e = absurd (none_some d None refl e)
if_of_is x (Some f) d e = go (same f.subscriber x) refl e
  where
    go : (b : Bool) → same f.subscriber x ≡ b → cond b (Some f) None ≡ Some d → (Some f ≡ Some d) × (d.subscriber ≡ x)
    go true q r = (r, ap (λ (g : Dialogue). g.subscriber) (sym (some_inj f d _ refl r)) ∙ same_is _ _ q)
    go false q r = absurd (none_some d None refl r)

-- outside its own entries, nothing of x changes

same_after : (x : List ℕ) (S T : State) → T ≡ S → SameAfter x S T
same_after x S T e = record {
  record_of = ap (λ (U : State). U.records x) e;
  dialogues = λ i. ap (λ (U : State). if_of x (U.dialogues i)) e;
  clocks = λ m. ap (λ (U : State). U.clocks m) e;
  directory = ap (λ (U : State). U.directory) e;
  hlr = ap (λ (U : State). U.hlr) e;
}

not_clock : (S : State) (e : Event) (turn : Turn) → View S e turn → is_clock e ≡ false → ticked turn S ≡ S
not_clock S e _ (Idly out q) n = refl
not_clock S e _ (Ticking m now q) n = absurd (both_ways _ n (ap is_clock q))
not_clock S e _ (Beginning from r p cs q) n = refl
not_clock S e _ (Continuing i d t cs there active v nm r) n = refl
not_clock S e _ (Closing i d there v nm r) n = refl
not_clock S e _ (Expiring m i d j v q due least) n = refl
not_clock S e _ (Changing y k q) n = refl

is_imsi : (S : State) (n : ℕ) (x : List ℕ) → (local_of S n x).imsi ≡ x
unfolding local_of
is_imsi S n x = refl

is_record : (S : State) (n : ℕ) (x : List ℕ) → (local_of S n x).record_of ≡ S.records x
unfolding local_of
is_record S n x = refl

-- of the dialogues after, those of x are those before, if y is another
outside_dialogues : (S : State) (n : ℕ) (x y : List ℕ) (i : Option (List ℕ)) (new : List ℕ) (o : Outcome) (began vlr : Option (List ℕ))
    → Good (local_of S n y) S.dialogues i began vlr new o
    → ((j : List ℕ) → i ≡ Some j → (d : Dialogue) × (S.dialogues j ≡ Some d) × (d.subscriber ≡ y)) → (IsTrue (is_some o.opens) → S.dialogues new ≡ None)
    → (y ≡ x → ⊥)
    → (j : List ℕ) → if_of x (new_opens new o.opens (named_stays i o.stays S.dialogues) j) ≡ if_of x (S.dialogues j)
outside_dialogues S n x y i new o began vlr good names is_new ne j = by (new_opens new o.opens (named_stays i o.stays S.dialogues) j) refl
  where
    was_none : (q : Option Dialogue) → S.dialogues j ≡ q → new_opens new o.opens (named_stays i o.stays S.dialogues) j ≡ None → None ≡ if_of x q
    was_none None e z = refl
    was_none (Some d) e z = sym (if_of_not x (Some d) d refl (λ s. ne (other s)))
      where
        -- it is gone, so it was named
        other : d.subscriber ≡ x → y ≡ x
        other s = named_one i refl
          where
            not_new : (new ≡ j) → IsTrue (is_some o.opens) → ⊥
            not_new nj t = none_some d _ (ap S.dialogues (sym nj) ∙ is_new t) e

            stays_there : ((i ≡ Some j) → ⊥) → ⊥
            stays_there h = none_some d _ z (others_stay S i new o j h (λ t nj. not_new nj t) ∙ e)

            named_one : (k : Option (List ℕ)) → i ≡ k → y ≡ x
            named_one None ik = absurd (stays_there (λ h. none_some j None refl (sym ik ∙ h)))
            named_one (Some k) ik = at_key (cases_same k j)
              where
                at_key : (k ≡ j) ⊎ (k ≡ j → ⊥) → y ≡ x
                at_key (inl kj) = let was : (f : Dialogue) × (S.dialogues j ≡ Some f)
                    × (f.subscriber ≡ y) = names j (ik ∙ ap (λ (q : List ℕ). Some q) kj) in sym was.2
                    ∙ ap (λ (f : Dialogue). f.subscriber) (some_inj was.0 d _ was.1 e) ∙ s
                at_key (inr kj) = absurd (stays_there (λ h. kj (some_inj k j _ ik h)))

    from_some : (d : Dialogue) → From S i new o j d → if_of x (Some d) ≡ if_of x (S.dialogues j)
    from_some d (Opened nj q) = if_of_not x (Some d) d refl (λ s. ne (sym ((good.opens d q).0.subscriber ∙ is_imsi S n y) ∙ s))
        ∙ sym (ap (λ r. if_of x r) (ap S.dialogues (sym nj) ∙ is_new (ap (λ r. is_some r) q)))
    from_some d (Stayed ij q) = let was : (f : Dialogue) × (S.dialogues j ≡ Some f) × (f.subscriber ≡ y) = names j ij in
        if_of_not x (Some d) d refl (λ s. ne (sym ((good.stays d q).subscriber ∙ is_imsi S n y) ∙ s))
        ∙ sym (if_of_not x (S.dialogues j) was.0 was.1 (λ s. ne (sym was.2 ∙ s)))
    from_some d (Was_there e h) = ap (λ q. if_of x q) (sym e)

    by : (q : Option Dialogue) → new_opens new o.opens (named_stays i o.stays S.dialogues) j ≡ q
        → if_of x (new_opens new o.opens (named_stays i o.stays S.dialogues) j) ≡ if_of x (S.dialogues j)
    by None q = ap (λ r. if_of x r) q ∙ was_none (S.dialogues j) refl q
    by (Some d) q = ap (λ r. if_of x r) q ∙ from_some d (from S i new o j d q)

outside_moved : (S : State) (e : Event) (turn : Turn) (new x y : List ℕ) (T : State) (a : Answer) → Sound S → View S e turn → concern S.directory turn ≡ Some y
    → Moves S (route S.directory e) turn new (outcome_in S (route S.directory e) turn new) T a → is_subject x a.subject ≡ false → SameAfter x S T
outside_moved S e turn new x y T a sound v c m sub =
    let n : ℕ = route S.directory e in
    let o : Outcome = outcome (local_of S n y) turn new in
    let f : Facts S e turn y new n = facts S e turn y new n sound v c in
    let state : T ≡ moved S (Some y) (named turn) new o = state_of S e turn y new T a c m in
    let o_is : outcome_in S n turn new ≡ o = outcome_of S n turn y new c in
    let subject : a.subject ≡ if_known y (S.records y) = m.subject ∙ subject_known S e turn sound v ∙ ap (λ q. known_in S q) c in
    record {
      record_of = ap (λ (U : State). U.records x) state ∙ record_at (cases_same y x);
      dialogues = λ j. ap (λ (U : State). if_of x (U.dialogues j)) state ∙ dialogue_at j (cases_same y x);
      clocks = λ k. ap (λ (U : State). U.clocks k) state;
      directory = ap (λ (U : State). U.directory) state;
      hlr = ap (λ (U : State). U.hlr) state;
    }
  where
    n : ℕ
    n = route S.directory e

    f : Facts S e turn y new (route S.directory e)
    f = facts S e turn y new (route S.directory e) sound v c

    -- x has no record, if x is the turn's subscriber
    no_record : y ≡ x → S.records y ≡ None
    no_record yx = by (S.records y) refl
      where
        by : (r : Option Subscriber) → S.records y ≡ r → S.records y ≡ None
        by None q = q
        by (Some s) q = absurd (both_ways _ (sym (ap (λ p. is_subject x p)
            (m.subject ∙ subject_known S e turn sound v ∙ ap (λ p. known_in S p) c ∙ ap (λ p. if_known y p) q)) ∙ sub) (is_same y x yx))

    none_of : (o : Option Subscriber) → is_some o ≡ false → o ≡ None
    none_of None h = refl
    none_of (Some s) h = absurd (both_ways true h refl)

    record_at : (y ≡ x) ⊎ (y ≡ x → ⊥) → put S.records y (outcome (local_of S (route S.directory e) y) turn new).after x ≡ S.records x
    record_at (inl yx) = put-at S.records y _ x yx ∙ none_of _ (f.good.known ∙ ap (λ r. is_some r) (is_record S (route S.directory e) y ∙ no_record yx))
        ∙ sym (sym (ap S.records yx) ∙ no_record yx)
    record_at (inr ne) = put-other S.records y _ x ne

    is_new : IsTrue (is_some (outcome (local_of S (route S.directory e) y) turn new).opens) → S.dialogues new ≡ None
    is_new t = (m.opens (ap (λ (q : Outcome). is_some q.opens) (outcome_of S (route S.directory e) turn y new c) ∙ t)).is_new

    dialogue_at : (j : List ℕ) → (y ≡ x) ⊎ (y ≡ x → ⊥) → if_of x
        (new_opens new (outcome (local_of S (route S.directory e) y) turn new).opens
        (named_stays (named turn) (outcome (local_of S (route S.directory e) y) turn new).stays S.dialogues) j) ≡ if_of x (S.dialogues j)
    dialogue_at j (inr ne) = outside_dialogues S (route S.directory e) x y (named turn) new _ _ _ f.good f.names is_new ne j
    dialogue_at j (inl yx) = ap (λ q. if_of x q) (others_stay S (named turn) new (outcome (local_of S (route S.directory e) y) turn new) j
        (λ ij. let was : (d : Dialogue) × (S.dialogues j ≡ Some d)
        × (d.subscriber ≡ y) = f.names j ij in both_ways _ (ap (λ r. is_some r) (ap S.records was.2 ∙ no_record yx))
        (sound.dialogues j was.0 was.1).has_record)
        (λ t nj. opens_none t))
      where
        opens_none : IsTrue (is_some (outcome (local_of S (route S.directory e) y) turn new).opens) → ⊥
        opens_none t = by (outcome (local_of S (route S.directory e) y) turn new).opens refl t
          where
            by : (q : Option Dialogue) → (outcome (local_of S (route S.directory e) y) turn new).opens ≡ q → IsTrue (is_some q) → ⊥
            by None r u = both_ways false refl u
            by (Some d) r u = both_ways _ (ap (λ z. is_some z) (is_record S (route S.directory e) y ∙ no_record yx)) (f.good.opens d r).1

-- an entry that is not x's leaves the record of x, the dialogues of x and the clocks
pub step_outside : (x : List ℕ) (S : State) (e : Event) (T : State) (a : Answer) → Sound S → Step S e T a → is_of x (record { event = e; answer = a }) ≡ false
    → SameAfter x S T
step_outside x S e T a sound step h = go (is_clock e) refl h step
  where
    go : (b : Bool) → is_clock e ≡ b → cond b true (is_subject x a.subject) ≡ false → Step S e T a → SameAfter x S T
    go true q f s = absurd (both_ways true f refl)
    go false q f (Taken turn new comes m) = by (concern S.directory turn) refl
      where
        by : (c : Option (List ℕ)) → concern S.directory turn ≡ c → SameAfter x S T
        by None c = same_after x S T (state_none S e turn new T a c m ∙ not_clock S e turn (view S e turn comes) q)
        by (Some y) c = outside_moved S e turn new x y T a sound (view S e turn comes) c m f
    go false q f (Full turn new comes t) = same_after x S T t.state

-- an entry of x in a state with nothing of others

-- a dialogue of x is in both
there_too : (x : List ℕ) (S T : State) (i : List ℕ) (d : Dialogue) → AgreeOf x S T → S.dialogues i ≡ Some d → d.subscriber ≡ x → T.dialogues i ≡ Some d
there_too x S T i d h e s = (if_of_is x (T.dialogues i) d (h.dialogues i ∙ if_of_at x (S.dialogues i) d e s)).0

-- each dialogue of the second state is in the first
there_before : (x : List ℕ) (S T : State) (i : List ℕ) (d : Dialogue) → AgreeOf x S T → T.dialogues i ≡ Some d → S.dialogues i ≡ Some d
there_before x S T i d h e = (if_of_is x (S.dialogues i) d (sym (h.dialogues i) ∙ if_of_at x (T.dialogues i) d e (h.alone i d e))).0

none_too : (x : List ℕ) (S T : State) (i : List ℕ) → AgreeOf x S T → S.dialogues i ≡ None → T.dialogues i ≡ None
none_too x S T i h e = go (T.dialogues i) refl
  where
    go : (o : Option Dialogue) → T.dialogues i ≡ o → T.dialogues i ≡ None
    go None q = q
    go (Some d) q = absurd (none_some d _ e (there_before x S T i d h q))

due_before : (x : List ℕ) (S T : State) (n : ℕ) (i : List ℕ) (d : Dialogue) (j : ℤ) (v : Invocation) → AgreeOf x S T → IsDue T n i d j v → IsDue S n i d j v
due_before x S T n i d j v h due = record {
  of_shard = due.of_shard;
  is_open = there_before x S T i d h due.is_open;
  stands = due.stands;
  due = subst
      (λ c. v.deadline ≤ c) (h.clocks n) due.due;
}

-- a Continue for a dialogue of x
continue_too : (x : List ℕ) (S T : State) (from r i : List ℕ) (cs : List Component) (turn : Turn) → AgreeOf x S T
    → turn ≡ continue_at from r i cs (S.dialogues i) → concern S.directory turn ≡ Some x → T.dialogues i ≡ S.dialogues i
continue_too x S T from r i cs turn h is c = go (S.dialogues i) refl (sym (ap (λ k. concern S.directory k) is) ∙ c)
  where
    for_one : (d : Dialogue) (t : Option Transaction) → concern S.directory (continue_for from r i cs d t) ≡ Some x → d.subscriber ≡ x
    for_one d None q = absurd (none_some x None refl q)
    for_one d (Some t) q = some_inj d.subscriber x _ refl q

    go : (o : Option Dialogue) → S.dialogues i ≡ o → concern S.directory (continue_at from r i cs o) ≡ Some x → T.dialogues i ≡ S.dialogues i
    go None e q = absurd (none_some x None refl q)
    go (Some d) e q = there_too x S T i d h e (for_one d (for_it (transact (Some d.transaction) (ContinueComes from r))) q) ∙ sym e

close_too : (x : List ℕ) (S T : State) (i : List ℕ) (turn : Turn) → AgreeOf x S T → turn ≡ close_at i (S.dialogues i) → concern S.directory turn ≡ Some x
    → T.dialogues i ≡ S.dialogues i
close_too x S T i turn h is c = go (S.dialogues i) refl (sym (ap (λ k. concern S.directory k) is) ∙ c)
  where
    go : (o : Option Dialogue) → S.dialogues i ≡ o → concern S.directory (close_at i o) ≡ Some x → T.dialogues i ≡ S.dialogues i
    go None e q = absurd (none_some x None refl q)
    go (Some d) e q = there_too x S T i d h e (some_inj d.subscriber x _ refl q) ∙ sym e

message_too : (x : List ℕ) (S T : State) (from : List ℕ) (m : Message) (turn : Turn) → AgreeOf x S T → turn ≡ turn_of_message S.dialogues from m
    → concern S.directory turn ≡ Some x → turn ≡ turn_of_message T.dialogues from m
message_too x S T from (Begin r p cs) turn h is c = is
message_too x S T from (Continue r i p cs) turn h is c = is ∙ ap (λ o. continue_at from r i cs o) (sym (continue_too x S T from r i cs turn h is c))
message_too x S T from (End i p cs) turn h is c = is ∙ ap (λ o. close_at i o) (sym (close_too x S T i turn h is c))
message_too x S T from (Abort i) turn h is c = is ∙ ap (λ o. close_at i o) (sym (close_too x S T i turn h is c))

verdict_too : (x : List ℕ) (S T : State) (from : List ℕ) (v : Verdict) (turn : Turn) → AgreeOf x S T → turn ≡ turn_of_verdict S.dialogues from v
    → concern S.directory turn ≡ Some x → turn ≡ turn_of_verdict T.dialogues from v
verdict_too x S T from Discard turn h is c = is
verdict_too x S T from (Refuse r k) turn h is c = is
verdict_too x S T from (Read m) turn h is c = message_too x S T from m turn h is c

-- the least triple of all, if it is x's, is the least of x's
expiry_too : (x : List ℕ) (S T : State) (n : ℕ) (turn : Turn) → AgreeOf x S T → Expiry S n turn → concern S.directory turn ≡ Some x → Expiry T n turn
expiry_too x S T n turn h (OneDue i d j v due least is) c =
    let s : d.subscriber ≡ x = some_inj d.subscriber x _ refl (sym (ap (λ k. concern S.directory k) is) ∙ c) in
    OneDue i d j v
    (record {
      of_shard = due.of_shard;
      is_open = there_too x S T i d h due.is_open s;
      stands = due.stands;
      due = subst (λ t. v.deadline ≤ t)
          (sym (h.clocks n)) due.due;
    })
    (λ i' d' j' v' q. least i' d' j' v' (due_before x S T n i' d' j' v' h q)) is
expiry_too x S T n turn h (NoneDue none is) c = absurd (none_some x _ (sym c ∙ ap (λ k. concern S.directory k) is) refl)

comes_too : (x : List ℕ) (S T : State) (e : Event) (turn : Turn) → AgreeOf x S T → TurnsTo S e turn → concern S.directory turn ≡ Some x → TurnsTo T e turn
comes_too x S T (Frame from v) turn h k c = verdict_too x S T from v turn h k c
comes_too x S T (Clock m now) turn h k c = k
comes_too x S T (Expire m) turn h k c = expiry_too x S T m turn h k c
comes_too x S T (Operator y u) turn h k c = k

full_before : (x : List ℕ) (S T : State) (n : ℕ) → AgreeOf x S T → IsFull T n → IsFull S n
full_before x S T n h (is, o, len) = (
  is,
  record {
    different = o.different;
    open_ones = every_to (λ i. (shard_of_id i ≡ n) × (T.dialogues i ≡ None → ⊥))
        (λ i. (shard_of_id i ≡ n) × (S.dialogues i ≡ None → ⊥)) (λ i q. (q.0, λ z. q.1 (none_too x S T i h z))) is o.open_ones;
  },
  len,
)

-- what the step reads, if its subscriber is x or if the clock moves
alike_with : (x : List ℕ) (S T : State) (e : Event) (turn : Turn) → AgreeOf x S T → TurnsTo T e turn → (c : Option (List ℕ)) → concern S.directory turn ≡ c
    → (c ≡ None) ⊎ (c ≡ Some x) → Alike S T e turn
alike_with x S T e turn h comes c q either = record {
  comes = comes;
  same_route = routes;
  same_concern = concerns;
  same_seen = ap (λ o. seen T (route T.directory e) o) (concerns ∙ q) ∙ seen_same either ∙ ap (λ o. seen S (route S.directory e) o) (sym q);
  same_subject = subject_alike S T turn (ap (λ o. known_in T o) (concerns ∙ q) ∙ subject_same either ∙ ap (λ o. known_in S o) (sym q));
  fresh = λ new id none. none_too x S T new h none;
  room = λ full. full_before x S T (route S.directory e) h (subst (λ m. IsFull T m) routes full);
}
  where
    routes : route T.directory e ≡ route S.directory e
    routes = ap (λ d. route d e) h.directory

    concerns : concern T.directory turn ≡ concern S.directory turn
    concerns = ap (λ d. concern d turn) h.directory

    clocks_same : T.clocks (route T.directory e) ≡ S.clocks (route S.directory e)
    clocks_same = ap T.clocks routes ∙ h.clocks (route S.directory e)

    seen_same : (c ≡ None) ⊎ (c ≡ Some x) → seen T (route T.directory e) c ≡ seen S (route S.directory e) c
    seen_same (inl n) = ap (λ o. seen T (route T.directory e) o) n ∙ nobody_is S T (route T.directory e) (route S.directory e) clocks_same h.hlr
        ∙ ap (λ o. seen S (route S.directory e) o) (sym n)
    seen_same (inr s) = ap (λ o. seen T (route T.directory e) o) s
        ∙ local_is S T (route T.directory e) (route S.directory e) x routes h.record_of h.dialogues clocks_same h.hlr
        ∙ ap (λ o. seen S (route S.directory e) o) (sym s)

    subject_same : (c ≡ None) ⊎ (c ≡ Some x) → known_in T c ≡ known_in S c
    subject_same (inl n) = ap (λ o. known_in T o) n ∙ ap (λ o. known_in S o) (sym n)
    subject_same (inr s) = ap (λ o. known_in T o) s ∙ ap (λ o. if_known x o) h.record_of ∙ ap (λ o. known_in S o) (sym s)

-- the dialogues of x afterwards
of_put : (x : List ℕ) (D E : List ℕ → Option Dialogue) (k : List ℕ) (v : Option Dialogue) (j : List ℕ) → if_of x (D j) ≡ if_of x (E j)
    → if_of x (put D k v j) ≡ if_of x (put E k v j)
of_put x D E k v j h = go (cases_same k j)
  where
    go : (k ≡ j) ⊎ (k ≡ j → ⊥) → if_of x (put D k v j) ≡ if_of x (put E k v j)
    go (inl e) = ap (λ o. if_of x o) (put-at D k v j e ∙ sym (put-at E k v j e))
    go (inr ne) = ap (λ o. if_of x o) (put-other D k v j ne) ∙ h ∙ ap (λ o. if_of x o) (sym (put-other E k v j ne))

of_dialogues : (x : List ℕ) (D E : List ℕ → Option Dialogue) (i : Option (List ℕ)) (new : List ℕ) (stays opens : Option Dialogue) (j : List ℕ)
    → if_of x (D j) ≡ if_of x (E j) → if_of x (new_opens new opens (named_stays i stays D) j) ≡ if_of x (new_opens new opens (named_stays i stays E) j)
of_dialogues x D E i new stays opens j e = by_opens opens
  where
    by_named : (k : Option (List ℕ)) → if_of x (named_stays k stays D j) ≡ if_of x (named_stays k stays E j)
    by_named None = e
    by_named (Some k) = of_put x D E k stays j e

    by_opens : (o : Option Dialogue) → if_of x (new_opens new o (named_stays i stays D) j) ≡ if_of x (new_opens new o (named_stays i stays E) j)
    by_opens None = by_named i
    by_opens (Some d) = of_put x _ _ new (Some d) j (by_named i)

-- after the same moves of x
after_moved : (x : List ℕ) (S T : State) (n : ℕ) (i : Option (List ℕ)) (new : List ℕ) (o : Outcome) (began vlr : Option (List ℕ)) → AgreeOf x S T
    → Good (local_of S n x) S.dialogues i began vlr new o → AgreeOf x (moved S (Some x) i new o) (moved T (Some x) i new o)
after_moved x S T n i new o began vlr h good = record {
  record_of = put_alike T.records S.records x o.after x h.record_of;
  dialogues = λ j. of_dialogues x T.dialogues S.dialogues i new o.stays o.opens j (h.dialogues j);
  alone = λ j d e. own_of j d (from T i new o j d e);
  clocks = h.clocks;
  directory = h.directory;
  hlr = h.hlr;
}
  where
    own_of : (j : List ℕ) (d : Dialogue) → From T i new o j d → d.subscriber ≡ x
    own_of j d (Opened nj q) = (good.opens d q).0.subscriber ∙ is_imsi S n x
    own_of j d (Stayed ij q) = (good.stays d q).subscriber ∙ is_imsi S n x
    own_of j d (Was_there q ne) = h.alone j d q

after_ticked : (x : List ℕ) (U V : State) (turn : Turn) → AgreeOf x U V → AgreeOf x (ticked turn U) (ticked turn V)
after_ticked x U V (Ticks m now) h = record {
  record_of = h.record_of;
  dialogues = h.dialogues;
  alone = h.alone;
  clocks = λ k. put_at_alike V.clocks U.clocks m _ _ k (ap (λ t. max t (min now (2 ^ 62))) (h.clocks m)) (h.clocks k);
  directory = h.directory;
  hlr = h.hlr;
}
after_ticked x U V (Dismissed out) h = h
after_ticked x U V (Begins from r p cs) h = h
after_ticked x U V (Continues i d cs) h = h
after_ticked x U V (Closes i d) h = h
after_ticked x U V (Expires i d j was) h = h
after_ticked x U V (Changes y k) h = h

pub record OwnStep (x : List ℕ) (T S' : State) (e : Event) (a : Answer) : Type 0 where
  pub state : State
  pub step : Step T e state a
  pub agree : AgreeOf x S' state

own_moved : (x : List ℕ) (S T : State) (e : Event) (turn : Turn) (new : List ℕ) (S' : State) (a : Answer) → Sound S → AgreeOf x S T → TurnsTo S e turn
    → TurnsTo T e turn → (c : Option (List ℕ)) → concern S.directory turn ≡ c → (c ≡ None) ⊎ (c ≡ Some x)
    → Moves S (route S.directory e) turn new (outcome_in S (route S.directory e) turn new) S' a → OwnStep x T S' e a
unfolding step_after
own_moved x S T e turn new S' a sound h comes_s comes_t c q either m =
    let alike : Alike S T e turn = alike_with x S T e turn h comes_t c q either in
    record {
      state = step_after T e turn new;
      step = transfer S T e turn new S' a alike m;
      agree = subst (λ U. AgreeOf x U (step_after T e turn new)) (sym m.state)
          (subst (λ U. AgreeOf x (ticked turn (moved S (concern S.directory turn) (named turn) new (outcome_in S (route S.directory e) turn new))) U)
          (second alike) (after_ticked x _ _ turn (both either)));
    }
  where
    second : Alike S T e turn → ticked turn (moved T (concern S.directory turn) (named turn) new (outcome_in S (route S.directory e) turn new))
        ≡ ticked turn (moved T (concern T.directory turn) (named turn) new (outcome_in T (route T.directory e) turn new))
    second alike = ap (λ k. ticked turn (moved T k (named turn) new (outcome_in S (route S.directory e) turn new))) (sym alike.same_concern)
        ∙ ap (λ o. ticked turn (moved T (concern T.directory turn) (named turn) new o)) (sym (same_out S T e turn new alike))

    both : (c ≡ None) ⊎ (c ≡ Some x) → AgreeOf x (moved S (concern S.directory turn) (named turn) new (outcome_in S (route S.directory e) turn new))
        (moved T (concern S.directory turn) (named turn) new (outcome_in S (route S.directory e) turn new))
    both (inl n) = subst (λ k. AgreeOf x (moved S k (named turn) new (outcome_in S (route S.directory e) turn new))
        (moved T k (named turn) new (outcome_in S (route S.directory e) turn new))) (sym (q ∙ n)) h
    both (inr s) =
        let k_is : concern S.directory turn ≡ Some x = q ∙ s in
        let good : Good (local_of S (route S.directory e) x) S.dialogues (named turn) _ _ new (outcome (local_of S (route S.directory e) x) turn new) =
        (facts S e turn x new (route S.directory e) sound (view S e turn comes_s) k_is).good in
        subst (λ k. AgreeOf x (moved S k (named turn) new (outcome_in S (route S.directory e) turn new))
        (moved T k (named turn) new (outcome_in S (route S.directory e) turn new))) (sym k_is)
        (subst (λ o. AgreeOf x (moved S (Some x) (named turn) new o) (moved T (Some x) (named turn) new o))
        (sym (outcome_of S (route S.directory e) turn x new k_is))
        (after_moved x S T (route S.directory e) (named turn) new _ _ _ h good))

-- a clock event has no subscriber, and is the same in both
clock_comes : (S T : State) (e : Event) (turn : Turn) → is_clock e ≡ true → TurnsTo S e turn → (TurnsTo T e turn) × (concern S.directory turn ≡ None)
clock_comes S T (Frame from v) turn q k = absurd (both_ways false refl q)
clock_comes S T (Clock m now) turn q k = (k, ap (λ o. concern S.directory o) k)
clock_comes S T (Expire m) turn q k = absurd (both_ways false refl q)
clock_comes S T (Operator y u) turn q k = absurd (both_ways false refl q)

pub step_inside : (x : List ℕ) (S T : State) (e : Event) (S' : State) (a : Answer) → Sound S → AgreeOf x S T → Step S e S' a
    → is_of x (record { event = e; answer = a }) ≡ true → is_subject x a.subject && is_turned_away a.sent ≡ false → OwnStep x T S' e a
step_inside x S T e S' a sound h step own_one not_away = go (is_clock e) refl own_one step
  where
    go : (b : Bool) → is_clock e ≡ b → cond b true (is_subject x a.subject) ≡ true → Step S e S' a → OwnStep x T S' e a
    go true q f (Taken turn new comes m) = let k : (TurnsTo T e turn)
        × (concern S.directory turn ≡ None) = clock_comes S T e turn q comes in own_moved x S T e turn new S' a sound h comes k.0 None k.1 (inl refl) m
    go true q f (Full turn new comes t) = absurd (none_clock e turn q comes t.from t.origin t.name t.components t.begins)
      where
        none_clock : (e : Event) (turn : Turn) → is_clock e ≡ true → TurnsTo S e turn → (fr r : List ℕ) (p : Option (List ℕ)) (cs : List Component)
            → turn ≡ Begins fr r p cs → ⊥
        none_clock (Frame from v) turn q k fr r p cs b = both_ways false refl q
        none_clock (Clock m now) turn q k fr r p cs b = cc
        none_clock (Expire m) turn q k fr r p cs b = both_ways false refl q
        none_clock (Operator y u) turn q k fr r p cs b = both_ways false refl q
    go false q f (Taken turn new comes m) =
        let c : concern S.directory turn ≡ Some x = subject_concern S x turn (sym (ap (λ o. is_subject x o) m.subject) ∙ f) in
        own_moved x S T e turn new S' a sound h comes (comes_too x S T e turn h comes c) (Some x) c (inr refl) m
    go false q f (Full turn new comes t) = absurd (both_ways _ not_away (and_from _ _ f (ap (λ o. is_turned_away o) t.sent)))
