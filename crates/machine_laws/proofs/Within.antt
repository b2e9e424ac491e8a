-- The bounds of states, along steps and runs.
use Rattle.std.proofs.Common.{◌≡◌, min, max, ◌<◌, ◌≤◌, ℕ, List, [], ◌∷◌, Bool, true, false, cond, ◌==◌, nat_lt, length, refl, sym, ap, ◌∙◌, subst, Option, Some, None, is_some, IsTrue, arith, lit<, lt-ltb, le-ltb, ◌⊎◌, inl, inr}
use Rattle.std.proofs.lemmas.Bool.{cases_eq, cases_lt}
use Rattle.machine.specs.Received.{Abort, Begin, Component, Continue, Discard, End, Read, Refuse, Verdict}
use Rattle.machine.specs.Step.{Answer, Full, Step, Taken, moved, outcome_in, seen, ticked}
use Rattle.machine.specs.Octets.{IsOctet, AreOctets}
use Rattle.machine.specs.Bounds.{AnswerInBounds, AreDigits, ChangeInBounds, ComponentsInBounds, DialogueInBounds, EventInBounds, IfThere, IsName, IsTransactionId, KindInBounds, OutInBounds, RecordInBounds, StateInBounds, VerdictInBounds}
use Rattle.machine.specs.Turns.{Begins, Changes, Closes, Continues, Dismissed, Expires, Expiry, NoneDue, OneDue, Ticks, Turn, TurnsTo, close_at, concern, continue_at, continue_for, for_it, named, turn_of_verdict}
use Rattle.machine.specs.State.{Cancels, Data, Dialogue, IsIdOf, Kind, State, Subscriber, Updates, local_of, local_of_nobody}
use Rattle.machine.specs.Sent.{Cause, SentAbort}
use Rattle.machine.specs.Events.{Clock, Event, Expire, Frame, Operator}
use Rattle.machine.specs.Keys.{Every, put_at, same, shard_of, shard_of_id}
use Rattle.machine.specs.Transactions.{ForIt, Unassigned, continue_row, row}
use Rattle.machine.specs.Outcome.{Outcome, send}
use Rattle.machine.specs.Run.{Run}
use Rattle.machine.specs.Routing.{subject_of_begin, route}
use Rattle.machine_laws.specs.Worked.{directory, hlr, records}
use Rattle.machine.specs.declared.numbers.TheConstants.{MAX_CLOCK, SHARDS}
use Rattle.machine.specs.Holders.{names}
use Rattle.machine.specs.Opening.{opening}
use Rattle.machine.specs.Parts.{part, union}
use Rattle.machine_laws.specs.Worked.{directory, hlr, records}
use Rattle.machine_laws.proofs.Keys.{none_some, some_inj, put_cases}
use Rattle.machine_laws.proofs.Soundness.{From, from, Opened, Stayed, Was_there}
use Rattle.machine_laws.proofs.Steps.{shard_small}
use Rattle.machine_laws.proofs.Transfer.{put_at_same, put_at_other}
use Rattle.machine_laws.proofs.Bounding.{LocalInBounds, Bounded, bounded_unchanged, bounded_begins, bounded_continues, bounded_closes, bounded_expires, bounded_changes}

-- the turn of an event

abbrev TurnInBounds : Turn → Type 0
TurnInBounds (Dismissed out) = Every OutInBounds out
TurnInBounds (Ticks n now) = n < SHARDS
TurnInBounds (Begins from r p cs) = AreDigits from × IsTransactionId r × IfThere IsName p × ComponentsInBounds cs
TurnInBounds (Continues i d cs) = IsTransactionId i × DialogueInBounds d × ComponentsInBounds cs
TurnInBounds (Closes i d) = IsTransactionId i × DialogueInBounds d
TurnInBounds (Expires i d j was) = IsTransactionId i × DialogueInBounds d
TurnInBounds (Changes imsi change) = ChangeInBounds change

module _ (S : State) (bounds : StateInBounds S) where
  unassigned : (from r : List ℕ) (c : ℕ) → AreDigits from → IsTransactionId r → IsOctet c → Every OutInBounds (send from (SentAbort r (Cause c)))
  unassigned from r c f t o = ((f, (t, o)), tt)

  continue_in : (from r i : List ℕ) (cs : List Component) → AreDigits from → IsTransactionId r → ComponentsInBounds cs → (o : Option Dialogue)
      → S.dialogues i ≡ o → TurnInBounds (continue_at from r i cs o)
  continue_in from r i cs f t h None q = unassigned from r 1 f t (lit< tt)
  continue_in from r i cs f t h (Some d) q = at_remote d.transaction.remote refl
    where
      b : IsTransactionId i × DialogueInBounds d
      b = bounds.dialogues i d q

      met : (kind : Kind) → KindInBounds kind d.transaction → KindInBounds kind (record { peer = from; remote = Some r })
      met (Updates register k) g = (g.0, g.1, refl)
      met (Cancels vlr attempt cause) g = g
      met Data g = tt

      matches : (known : List ℕ) (z : Bool) → TurnInBounds (continue_for from r i cs d
          (for_it (cond z (row (Some d.transaction) ForIt) (row (Some d.transaction) Unassigned))))
      matches known true = (
        b.0,
        record {
          subscriber = b.1.subscriber;
          peer = b.1.peer;
          remote = b.1.remote;
          invocations = b.1.invocations;
          kind = b.1.kind;
        },
        h,
      )
      matches known false = unassigned from r 1 f t (lit< tt)

      at_remote : (o : Option (List ℕ)) → d.transaction.remote ≡ o → TurnInBounds (continue_for from r i cs d (for_it (continue_row d.transaction o from r)))
      at_remote None p = (b.0, record { subscriber = b.1.subscriber; peer = f; remote = t; invocations = b.1.invocations; kind = met d.kind b.1.kind }, h)
      at_remote (Some known) p = matches known (same known r)

  close_in : (i : List ℕ) (o : Option Dialogue) → S.dialogues i ≡ o → TurnInBounds (close_at i o)
  close_in i None q = tt
  close_in i (Some d) q = bounds.dialogues i d q

  verdict_in : (from : List ℕ) (v : Verdict) → AreDigits from → VerdictInBounds v → TurnInBounds (turn_of_verdict S.dialogues from v)
  verdict_in from Discard f h = tt
  verdict_in from (Refuse origin cause) f h = unassigned from origin cause f h.0 h.1
  verdict_in from (Read (Begin origin name cs)) f h = (f, h.0, h.1, h.2)
  verdict_in from (Read (Continue origin i portion cs)) f h = continue_in from origin i cs f h.0 h.1 (S.dialogues i) refl
  verdict_in from (Read (End i portion cs)) f h = close_in i (S.dialogues i) refl
  verdict_in from (Read (Abort i)) f h = close_in i (S.dialogues i) refl

  expiry_in : (n : ℕ) (turn : Turn) → Expiry S n turn → TurnInBounds turn
  expiry_in n turn (OneDue i d j v due least is) = subst (λ t. TurnInBounds t) (sym is) (bounds.dialogues i d due.is_open)
  expiry_in n turn (NoneDue none is) = subst (λ t. TurnInBounds t) (sym is) tt

  turn_in : (e : Event) (turn : Turn) → EventInBounds e → TurnsTo S e turn → TurnInBounds turn
  turn_in (Frame from v) turn h c = subst (λ t. TurnInBounds t) (sym c) (verdict_in from v h.0 h.1)
  turn_in (Clock n now) turn h c = subst (λ t. TurnInBounds t) (sym c) h
  turn_in (Expire n) turn h c = expiry_in n turn c
  turn_in (Operator imsi change) turn h c = subst (λ t. TurnInBounds t) (sym c) h

  local_in : (n : ℕ) (c : Option (List ℕ)) → LocalInBounds (seen S n c)
  unfolding local_of local_of_nobody
  local_in n None = record { known = λ s e. absurd (none_some s None refl e); hlr = bounds.hlr }
  local_in n (Some x) = record { known = λ s e. bounds.records x s e; hlr = bounds.hlr }

  imsi_of : (n : ℕ) (x : List ℕ) → (local_of S n x).imsi ≡ x
  unfolding local_of
  imsi_of n x = refl

  outcome_in_bounds : (n : ℕ) (turn : Turn) (new : List ℕ) → TurnInBounds turn → Bounded (seen S n (concern S.directory turn)) new (outcome_in S n turn new)
  outcome_in_bounds n (Dismissed out) new h = bounded_unchanged _ new (local_in n None) out h
  outcome_in_bounds n (Ticks m now) new h = bounded_unchanged _ new (local_in n None) [] tt
  outcome_in_bounds n (Begins from r p cs) new h = bounded_begins _ new (local_in n (subject_of_begin S.directory cs)) from r p cs h.0 h.1 h.2 h.3
  outcome_in_bounds n (Continues i d cs) new h = bounded_continues _ new (local_in n (Some d.subscriber)) i d h.0 h.1 cs h.2
  outcome_in_bounds n (Closes i d) new h = bounded_closes _ new (local_in n (Some d.subscriber)) i d h.0 h.1
  outcome_in_bounds n (Expires i d j was) new h = bounded_expires _ new (local_in n (Some d.subscriber)) i d h.0 h.1 j was (sym (imsi_of n d.subscriber))
  outcome_in_bounds n (Changes imsi change) new h = bounded_changes _ new (local_in n (Some imsi)) change _ refl h

  -- the state after

  record_in : (n : ℕ) (x : List ℕ) (s : Subscriber) (o : Option Subscriber)
      → ((u : Subscriber) → o ≡ Some u → AreDigits (local_of S n x).imsi × RecordInBounds u) → o ≡ Some s → AreDigits x × RecordInBounds s
  record_in n x s o h e = (let P : List ℕ → Type 0 = λ y. AreDigits y in subst P (imsi_of n x) (h s e).0, (h s e).1)

  moved_in : (n : ℕ) (turn : Turn) (new : List ℕ) (c i : Option (List ℕ)) (o : Outcome) → Bounded (seen S n c) new o
      → (IsTrue (is_some o.opens) → IsTransactionId new) → ((j : List ℕ) → i ≡ Some j → IsTransactionId j) → StateInBounds (moved S c i new o)
  moved_in n turn new None i o b t names = bounds
  moved_in n turn new (Some x) i o b t names = record {
    records = λ y s. put_cases S.records x o.after y (λ v. v ≡ Some s → AreDigits y × RecordInBounds s)
        (λ xy e. subst (λ (z : List ℕ). AreDigits z × RecordInBounds s) xy (record_in n x s o.after b.after e))
        (λ ne e. bounds.records y s e);
    dialogues = λ j d e. of j d (from S i new o j d e);
    clocks = bounds.clocks;
    no_more = bounds.no_more;
    hlr = bounds.hlr;
  }
    where
      of : (j : List ℕ) (d : Dialogue) → From S i new o j d → IsTransactionId j × DialogueInBounds d
      of j d (Opened nj q) = (subst (λ (z : List ℕ). IsTransactionId z) nj (t (ap (λ p. is_some p) q)), b.opens d q)
      of j d (Stayed ij q) = (names j ij, b.stays d q)
      of j d (Was_there e h) = bounds.dialogues j d e

named_in_bounds : (turn : Turn) → TurnInBounds turn → (j : List ℕ) → named turn ≡ Some j → IsTransactionId j
named_in_bounds (Dismissed out) h j e = absurd (none_some j None refl e)
named_in_bounds (Ticks n now) h j e = absurd (none_some j None refl e)
named_in_bounds (Begins from r p cs) h j e = absurd (none_some j None refl e)
named_in_bounds (Continues i d cs) h j e = subst (λ (z : List ℕ). IsTransactionId z) (some_inj i j _ refl e) h.0
named_in_bounds (Closes i d) h j e = subst (λ (z : List ℕ). IsTransactionId z) (some_inj i j _ refl e) h.0
named_in_bounds (Expires i d k was) h j e = subst (λ (z : List ℕ). IsTransactionId z) (some_inj i j _ refl e) h.0
named_in_bounds (Changes imsi change) h j e = absurd (none_some j None refl e)

ticks_in : (S : State) (n now : ℕ) → n < SHARDS → StateInBounds S → StateInBounds (ticked (Ticks n now) S)
ticks_in S n now small b = record {
  records = b.records;
  dialogues = b.dialogues;
  clocks = λ m. clock_at m (cases_eq n m);
  no_more = λ m late. put_at_other S.clocks n _ m (λ e. absurd (omega arith)) ∙ b.no_more m late;
  hlr = b.hlr;
}
  where
    clock_at : (m : ℕ) → (n ≡ m) ⊎ (n ≡ m → ⊥) → put_at S.clocks n (max (S.clocks n) (min now MAX_CLOCK)) m ≤ MAX_CLOCK
    clock_at m (inl e) = let was : S.clocks n ≤ MAX_CLOCK = b.clocks n in let is : put_at S.clocks n (max (S.clocks n) (min now MAX_CLOCK)) m
        ≡ max (S.clocks n) (min now MAX_CLOCK) = put_at_same S.clocks n _ m e in subst (λ (t : ℕ). t ≤ MAX_CLOCK) (sym is) (clock_small (S.clocks n) now was)
      where
        clock_small : (c now : ℕ) → c ≤ MAX_CLOCK → max c (min now MAX_CLOCK) ≤ MAX_CLOCK
        clock_small c now h = omega arith
    clock_at m (inr ne) = subst (λ (t : ℕ). t ≤ MAX_CLOCK) (sym (put_at_other S.clocks n _ m ne)) (b.clocks m)

ticked_in : (S : State) (turn : Turn) → TurnInBounds turn → StateInBounds S → StateInBounds (ticked turn S)
ticked_in S (Dismissed out) h b = b
ticked_in S (Ticks n now) h b = ticks_in S n now h b
ticked_in S (Begins from r p cs) h b = b
ticked_in S (Continues i d cs) h b = b
ticked_in S (Closes i d) h b = b
ticked_in S (Expires i d j was) h b = b
ticked_in S (Changes imsi change) h b = b

octets_are : (octets : List ℕ) → Every (λ o. o < 256) octets → AreOctets octets
octets_are [] h = tt
octets_are (o ∷ octets) h = (h.0, octets_are octets h.1)

new_in : (n : ℕ) (new : List ℕ) → IsIdOf n new → IsTransactionId new
new_in n new id = let four : length new ≡ 4 = id.four in record { octets = octets_are new id.octets; count = record { some = omega arith; most = omega arith } }

pub step_within : (S : State) (e : Event) (T : State) (a : Answer) → StateInBounds S → EventInBounds e → Step S e T a → StateInBounds T × AnswerInBounds a
step_within S e T a b h (Taken turn new turns m) =
    let t : TurnInBounds turn = turn_in S b e turn h turns in
    let o : Bounded (seen S (route S.directory e) (concern S.directory turn)) new (outcome_in S (route S.directory e) turn new) = outcome_in_bounds S b
    (route S.directory e) turn new t in
    let fresh : IsTrue (is_some (outcome_in S (route S.directory e) turn new).opens)
    → IsTransactionId new = (λ q. new_in (route S.directory e) new (m.opens q).of_shard) in (
      subst (λ U. StateInBounds U) (sym m.state) (ticked_in _ turn t
          (moved_in S b (route S.directory e) turn new (concern S.directory turn) (named turn) _ o fresh (named_in_bounds turn t))),
      subst (λ out. Every OutInBounds out) (sym m.sent) (o.sent fresh),
    )
step_within S e T a b h (Full turn new turns t) =
    let w : TurnInBounds turn = turn_in S b e turn h turns in
    let begins_in : TurnInBounds (Begins t.from t.origin t.name t.components) = subst (λ k. TurnInBounds k) t.begins w in (
      subst (λ U. StateInBounds U) (sym t.state) b,
      subst (λ out. Every OutInBounds out) (sym t.sent)
          (unassigned S b t.from t.origin 4 begins_in.0 begins_in.1 (lit< tt)),
    )

pub run_within : (es : List Event) (S T : State) (answers : List Answer) → StateInBounds S → Every EventInBounds es → Run S es T answers
    → StateInBounds T × Every AnswerInBounds answers
run_within [] S T [] b h run = (subst (λ U. StateInBounds U) (sym run) b, tt)
run_within [] S T (a ∷ answers) b h run = absurd run
run_within (e ∷ es) S T [] b h run = absurd run
run_within (e ∷ es) S T (a ∷ answers) b h (M, step, run) =
    let one : StateInBounds M × AnswerInBounds a = step_within S e M a b h.0 step in
    let rest : StateInBounds T × Every AnswerInBounds answers = run_within es M T answers one.0 h.1 run in
    (rest.0, (one.1, rest.1))

-- the opening state, and parts
pub opening_within : (records : List ℕ → Option Subscriber) (directory : List ℕ → Option (List ℕ)) (hlr : List ℕ)
    → ((x : List ℕ) (s : Subscriber) → records x ≡ Some s → AreDigits x × RecordInBounds s) → AreDigits hlr → StateInBounds (opening records directory hlr)
unfolding opening
opening_within records directory hlr h g = record {
  records = h;
  dialogues = λ i d e. absurd (none_some d None refl e);
  clocks = λ n. zero_small MAX_CLOCK;
  no_more = λ n late. refl;
  hlr = g;
}
  where
    zero_small : (m : ℕ) → 0 ≤ m
    zero_small m = omega arith

pub part_within : (S : State) (n : ℕ) → StateInBounds S → StateInBounds (part S n)
unfolding part
part_within S n b = record {
  records = λ x s e. b.records x s (there (shard_of x == n) (S.records x) s e);
  dialogues = λ i d e. b.dialogues i d (there (shard_of_id i == n) (S.dialogues i) d e);
  clocks = λ m. clock_at (m == n) (S.clocks m) (b.clocks m);
  no_more = λ m late. none_at (m == n) (S.clocks m) (b.no_more m late);
  hlr = b.hlr;
}
  where
    there : {X : Type 0} (t : Bool) (o : Option X) (x : X) → cond t o None ≡ Some x → o ≡ Some x
    there true o x e = e
    there false o x e = absurd (none_some x None refl e)

    clock_at : (t : Bool) (c : ℕ) → c ≤ MAX_CLOCK → cond t c 0 ≤ MAX_CLOCK
    clock_at true c h = h
    clock_at false c h = zero_small MAX_CLOCK
      where
        zero_small : (m : ℕ) → 0 ≤ m
        zero_small m = omega arith

    none_at : (t : Bool) (c : ℕ) → c ≡ 0 → cond t c 0 ≡ 0
    none_at true c e = e
    none_at false c e = refl

pub union_within : (states : ℕ → State) → ((n : ℕ) → n < 16 → StateInBounds (states n)) → StateInBounds (union states)
unfolding union
union_within states b = record {
  records = λ x s e. (b (shard_of x) (shard_small x)).records x s e;
  dialogues = λ i d e. of_dialogue (shard_of_id i) i d (cases_lt (shard_of_id i) 16) e;
  clocks = λ n. clock_at n (cases_lt n 16);
  no_more = λ n late. ap (λ t. cond t ((states n).clocks n) 0) (le-ltb n 16 late);
  hlr = (b 0 (lit< tt)).hlr;
}
  where
    of_dialogue : (n : ℕ) (i : List ℕ) (d : Dialogue) → (n < 16) ⊎ (16 ≤ n) → cond (nat_lt n 16) ((states n).dialogues i) None ≡ Some d
        → IsTransactionId i × DialogueInBounds d
    of_dialogue n i d (inl h) e = (b n h).dialogues i d (sym (ap (λ t. cond t ((states n).dialogues i) None) (lt-ltb n 16 h)) ∙ e)
    of_dialogue n i d (inr h) e = absurd (none_some d _ (ap (λ t. cond t ((states n).dialogues i) None) (le-ltb n 16 h)) e)

    clock_at : (n : ℕ) → (n < 16) ⊎ (16 ≤ n) → cond (nat_lt n 16) ((states n).clocks n) 0 ≤ MAX_CLOCK
    clock_at n (inl h) = subst (λ (t : ℕ). t ≤ MAX_CLOCK) (sym (ap (λ t. cond t ((states n).clocks n) 0) (lt-ltb n 16 h))) ((b n h).clocks n)
    clock_at n (inr h) = subst (λ (t : ℕ). t ≤ MAX_CLOCK) (sym (ap (λ t. cond t ((states n).clocks n) 0) (le-ltb n 16 h))) (zero_small MAX_CLOCK)
      where
        zero_small : (m : ℕ) → 0 ≤ m
        zero_small m = omega arith
