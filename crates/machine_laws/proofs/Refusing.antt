-- What is refused in a full shard: an operator's change has no step, and an update is turned away, as its answer shows.
use Rattle.std.proofs.Common.{◌≡◌, ℕ, ℤ, List, [], ◌∷◌, Bool, true, false, cond, refl, sym, ap, ◌∙◌, subst, Option, Some, None, is_some, IsTrue}
use Rattle.std.proofs.lemmas.Bool.{both_ways}
use Rattle.machine.specs.Step.{Answer, Full, HasNoRoom, Moves, Step, Taken, TurnedAway, known_in, outcome_in, seen, subject_of}
use Rattle.machine.specs.Received.{Argument, BadValue, Begin, Component, Purge, Read, Register, Route, Update}
use Rattle.machine.specs.Begins.{Initiator, end_of_begin, begins, begins_in, begins_named, begun, first_argument, procedure, purge, purge_at, update_begins}
use Rattle.machine.specs.Turns.{Begins, Changes, Turn, TurnsTo, concern}
use Rattle.machine.specs.Events.{Change, Clock, Event, Expire, Frame, Operator}
use Rattle.machine.specs.Sent.{Context, PurgeResult}
use Rattle.machine.specs.State.{Local, State, Subscriber, local_of, local_of_nobody}
use Rattle.machine.specs.Isolation.{MetFullShard, is_turned_away}
use Rattle.machine.specs.Outcome.{Outcome, unchanged}
use Rattle.machine.specs.Contexts.{accepted}
use Rattle.machine.specs.Routing.{subject_of_begin, named_in, route}
use Rattle.machine.specs.Keys.{same, shard_of}
use Rattle.machine_laws.proofs.Keys.{some_inj}
use Rattle.machine_laws.proofs.Views.{View, view, Idly, Ticking, Beginning, Continuing, Closing, Expiring, Changing}
use Rattle.machine_laws.proofs.Determined.{free}
use Rattle.machine_laws.proofs.Subjects.{known_is}

-- an operator's change that would overflow the shard has no step
no_step : (S : State) (imsi : List ℕ) (change : Change) (T : State) (a : Answer) → HasNoRoom S (Operator imsi change) → Step S (Operator imsi change) T a → ⊥
no_step S imsi change T a (old, w) (Taken turn new turns m) =
    let P : Turn → Type 0 = λ t. Moves S (shard_of imsi) t new (outcome_in S (shard_of imsi) t new) T a in
    let moves : Moves S (shard_of imsi) (Changes imsi change) new (outcome_in S (shard_of imsi) (Changes imsi change) new) T a = subst P turns m in
    moves.room (record {
      opens = (free (seen S (shard_of imsi) (Some imsi)) new old (Changes imsi change)).opens ∙ w.opens;
      beside = refl;
      full = w.full;
    })
no_step S imsi change T a (old, w) (Full turn new turns t) =
    let one : Changes imsi change ≡ Begins t.from t.origin t.name t.components = sym turns ∙ t.begins in cc

pub room_step : (S : State) (e : Event) (T : State) (a : Answer) → HasNoRoom S e → Step S e T a → ⊥
room_step S (Frame from v) T a h step = absurd h
room_step S (Clock n now) T a h step = absurd h
room_step S (Expire n) T a h step = absurd h
room_step S (Operator imsi change) T a h step = no_step S imsi change T a h step

-- a Begin that opens a dialogue is an update of a subscriber who has a record

pub record IsUpdateHere (L : Local) (cs : List Component) : Type 0 where
  pub imsi : List ℕ
  pub register : Register
  pub argument : first_argument cs ≡ Some (Update imsi register)
  pub known : IsTrue (is_some L.record_of)

-- either way of a test of which only the first opens
opens_first : (P : Type 0) (b : Bool) (o p : Outcome) → (IsTrue (is_some o.opens) → P) → (IsTrue (is_some p.opens) → P) → IsTrue (is_some (cond b o p).opens)
    → P
opens_first P true o p f g h = f h
opens_first P false o p f g h = g h

pub never : (P : Type 0) → IsTrue false → P
never P h = absurd (both_ways false refl h)

module _ (L : Local) (new : List ℕ) where
  opens_known : (initiator : Initiator) (k : ℤ) (register : Register) (R : Option Subscriber) → L.record_of ≡ R
      → IsTrue (is_some (update_begins L initiator k register R new).opens) → IsTrue (is_some L.record_of)
  opens_known initiator k register None r h = never _ h
  opens_known initiator k register (Some s) r h = ap (λ o. is_some o) r

  purge_opens : (P : Type 0) (initiator : Initiator) (k : ℤ) (vlr : Option (List ℕ)) (R : Option Subscriber)
      → IsTrue (is_some (purge L initiator k vlr R).opens) → P
  purge_opens P initiator k None R h = never P h
  purge_opens P initiator k (Some vlr) None h = never P h
  purge_opens P initiator k (Some vlr) (Some s) h = opens_first P s.withdrawn _ (purge_at L initiator k s vlr s.register) (never P) (at_register s.register) h
    where
      at_register : (g : Option Register) → IsTrue (is_some (purge_at L initiator k s vlr g).opens) → P
      at_register None q = never P q
      at_register (Some g) q = opens_first P (same g.vlr vlr) _ (unchanged L (end_of_begin initiator (PurgeResult k false ∷ []))) (never P) (never P) q

  procedure_opens : (initiator : Initiator) (k : ℤ) (p : Argument) (cs : List Component) → first_argument cs ≡ Some p
      → IsTrue (is_some (procedure L initiator k p new).opens) → IsUpdateHere L cs
  procedure_opens initiator k BadValue cs q h = never _ h
  procedure_opens initiator k (Update imsi register) cs q h =
      record { imsi = imsi; register = register; argument = q; known = opens_known initiator k register L.record_of refl h }
  procedure_opens initiator k (Purge imsi vlr) cs q h = purge_opens _ initiator k vlr L.record_of h
  procedure_opens initiator k (Route msisdn) cs q h = never _ h

  begun_opens : (initiator : Initiator) (s : Option ℤ) (p : Option Argument) (cs : List Component) → first_argument cs ≡ p
      → IsTrue (is_some (begun L initiator s p new).opens) → IsUpdateHere L cs
  begun_opens initiator None p cs q h = never _ h
  begun_opens initiator (Some k) None cs q h = never _ h
  begun_opens initiator (Some k) (Some p) cs q h = procedure_opens initiator k p cs q h

  in_opens : (from r : List ℕ) (c : Context) (cs : List Component) → IsTrue (is_some (begins_in L from r c cs new).opens) → IsUpdateHere L cs
  in_opens from r c [] h = never _ h
  in_opens from r c (k ∷ ks) h = begun_opens _ _ (first_argument (k ∷ ks)) (k ∷ ks) refl h

  named_opens : (from r name : List ℕ) (c : Option Context) (cs : List Component) → IsTrue (is_some (begins_named L from r name c cs new).opens)
      → IsUpdateHere L cs
  named_opens from r name None cs h = never _ h
  named_opens from r name (Some c) cs h = in_opens from r c cs h

  pub begins_opens : (from r : List ℕ) (p : Option (List ℕ)) (cs : List Component) → IsTrue (is_some (begins L from r p cs new).opens) → IsUpdateHere L cs
  begins_opens from r None cs h = never _ h
  begins_opens from r (Some name) cs h = named_opens from r name (accepted name) cs h

-- what is turned away is an update of its subject

begin_event : (S : State) (e : Event) (turn : Turn) (from r : List ℕ) (p : Option (List ℕ)) (cs : List Component) → View S e turn → turn ≡ Begins from r p cs
    → e ≡ Frame from (Read (Begin r p cs))
begin_event S e _ from r p cs (Idly out quiet) q = cc
begin_event S e _ from r p cs (Ticking m now is) q = cc
begin_event S e _ from r p cs (Beginning from' r' p' cs' is) q = cc
begin_event S e _ from r p cs (Continuing i d t ks there active v nm rt) q = cc
begin_event S e _ from r p cs (Closing i d there v nm rt) q = cc
begin_event S e _ from r p cs (Expiring m i d j v is due least) q = cc
begin_event S e _ from r p cs (Changing y k is) q = cc

nobody_known : (S : State) (n : ℕ) → IsTrue (is_some (local_of_nobody S n).record_of) → ⊥
unfolding local_of_nobody
nobody_known S n h = both_ways false refl h

record_known : (S : State) (n : ℕ) (x : List ℕ) → IsTrue (is_some (local_of S n x).record_of) → IsTrue (is_some (S.records x))
unfolding local_of
record_known S n x h = h

pub away_is : (S : State) (e : Event) (turn : Turn) (new : List ℕ) (T : State) (a : Answer) → TurnsTo S e turn
    → TurnedAway S (route S.directory e) turn (outcome_in S (route S.directory e) turn new) T a
    → (x : List ℕ) × MetFullShard S e T a x × (is_turned_away a.sent ≡ true)
away_is S e turn new T a turns t = go (subject_of_begin S.directory t.components) refl
  where
    n : ℕ
    n = route S.directory e

    concern_is : concern S.directory turn ≡ subject_of_begin S.directory t.components
    concern_is = ap (λ k. concern S.directory k) t.begins

    sight : (o : Option (List ℕ)) → subject_of_begin S.directory t.components ≡ o → IsUpdateHere (seen S (route S.directory e) o) t.components
    sight o q = begins_opens (seen S (route S.directory e) o) new t.from t.origin t.name t.components
        (sym (ap (λ (p : Outcome). is_some p.opens) (ap (λ k. outcome_in S (route S.directory e) k new) t.begins
        ∙ ap (λ p. begins (seen S (route S.directory e) p) t.from t.origin t.name t.components new) q)) ∙ t.overflows.opens)

    go : (o : Option (List ℕ)) → subject_of_begin S.directory t.components ≡ o → (x : List ℕ) × MetFullShard S e T a x × (is_turned_away a.sent ≡ true)
    go None q = absurd (nobody_known S (route S.directory e) (sight None q).known)
    go (Some x) q =
        let one : IsUpdateHere (seen S (route S.directory e) (Some x)) t.components = sight (Some x) q in
        let is_x : one.imsi ≡ x = some_inj one.imsi x _ (ap (λ p. named_in S.directory p) one.argument) q in (
          x,
          record {
            from = t.from;
            origin = t.origin;
            name = t.name;
            components = t.components;
            register = one.register;
            event = begin_event S e turn t.from t.origin t.name t.components (view S e turn turns) t.begins;
            argument = one.argument ∙ ap (λ (y : List ℕ). Some (Update y one.register)) is_x;
            subject = t.subject ∙ ap (λ k. subject_of S k) t.begins ∙ ap (λ p. known_in S p) q
                ∙ known_is x (S.records x) (record_known S (route S.directory e) x one.known);
            full = t.overflows.full;
            unchanged = t.state;
          },
          ap (λ o. is_turned_away o) t.sent,
        )
