-- Each event of a run has a step of the machine, so it is no change without room.
use Rattle.std.proofs.Common.{◌≡◌, ◌∙◌, ℕ, List, [], ◌∷◌, ◌++◌, map, refl, sym, ap, subst}
use Rattle.std.proofs.lemmas.List.{map-append}
use Rattle.machine.specs.Events.{Event, Change, Frame, Clock, Expire, Operator}
use Rattle.machine.specs.State.{State}
use Rattle.machine.specs.Step.{HasNoRoom}
use Rattle.machine_laws.proofs.Refusing.{room_step}
use Rattle.frames.specs.Octets.{IsEvent, RawChange, RawClock, RawEntry, RawEvent, RawExpire, RawFrame, RawOut, RunOctets, StepOctets}
use Rattle.wholenode.specs.Room.{RunsHaveRoom}

-- a change from outside is one event of the machine
same_change : (S : State) (e : Event) (raw : RawEvent) (f : Event) → IsEvent raw e → IsEvent raw f → HasNoRoom S e → HasNoRoom S f
same_change S (Frame source v) raw f is also none = absurd none
same_change S (Clock n t) raw f is also none = absurd none
same_change S (Expire n) raw f is also none = absurd none
same_change S (Operator x c) (RawFrame from octets) f is also none = absurd is
same_change S (Operator x c) (RawClock shard now) f is also none = absurd is
same_change S (Operator x c) (RawExpire shard) f is also none = absurd is
same_change S (Operator x c) (RawChange imsi change) (Frame source v) is also none = absurd also
same_change S (Operator x c) (RawChange imsi change) (Clock n t) is also none = absurd also
same_change S (Operator x c) (RawChange imsi change) (Expire n) is also none = absurd also
same_change S (Operator x c) (RawChange imsi change) (Operator y d) is also none = subst (λ (f : Event). HasNoRoom S f)
    (ap (λ (v : List ℕ). Operator v c) (is.0 ∙ sym also.0) ∙ ap (λ (v : Change). Operator y v) (is.1 ∙ sym also.1)) none

step_has_room : (S T : State) (entry : RawEntry) → StepOctets S entry T → (e : Event) → IsEvent entry.event e → HasNoRoom S e → ⊥
step_has_room S T entry step e is none =
    room_step S step.0.event T step.0.answer (same_change S e entry.event step.0.event is step.1.event none) step.2

-- a run in two parts
record InTwo (S : State) (handled : List RawEvent) (raw : RawEvent) (rest : List RawEvent) (entries : List RawEntry) (T : State) : Type 0 where
  between : State
  first : List RawEntry
  entry : RawEntry
  more : List RawEntry
  entries_are : entries ≡ first ++ entry ∷ more
  handled_are : map (λ (x : RawEntry). x.event) first ≡ handled
  raw_is : entry.event ≡ raw
  rest_are : map (λ (x : RawEntry). x.event) more ≡ rest
  to : RunOctets S first between
  from : RunOctets between (entry ∷ more) T

in_two : (S T : State) (handled : List RawEvent) (raw : RawEvent) (rest : List RawEvent) (entries : List RawEntry)
    → map (λ (x : RawEntry). x.event) entries ≡ handled ++ raw ∷ rest → RunOctets S entries T → InTwo S handled raw rest entries T
in_two S T [] raw rest [] e run = cc
in_two S T [] raw rest (entry ∷ more) e run = record {
  between = S;
  first = [];
  entry = entry;
  more = more;
  entries_are = refl;
  handled_are = refl;
  raw_is = cc;
  rest_are = cc;
  to = refl;
  from = run;
}
in_two S T (one ∷ others) raw rest [] e run = cc
in_two S T (one ∷ others) raw rest (entry ∷ more) e run =
    let tail : map (λ (x : RawEntry). x.event) more ≡ others ++ raw ∷ rest = cc in
    let head : entry.event ≡ one = cc in
    let behind = in_two run.0 T others raw rest more tail run.2 in
    record {
      between = behind.between;
      first = entry ∷ behind.first;
      entry = behind.entry;
      more = behind.more;
      entries_are = ap (λ (list : List RawEntry). entry ∷ list) behind.entries_are;
      handled_are = rw (head, behind.handled_are) refl;
      raw_is = behind.raw_is;
      rest_are = behind.rest_are;
      to = (run.0, run.1, behind.to);
      from = behind.from;
    }

abbrev outs_of : List RawEntry → List (List RawOut)
outs_of entries = map (λ (x : RawEntry). x.outs) entries

pub runs_have_room : RunsHaveRoom
runs_have_room S T handled raw rest sent run =
    let parts = in_two S T handled raw rest run.entries run.events run.run in
    record {
      between = parts.between;
      before = outs_of parts.first;
      behind = outs_of (parts.entry ∷ parts.more);
      sent_are = sym run.outs ∙ ap outs_of parts.entries_are ∙ map-append (λ (x : RawEntry). x.outs) parts.first (parts.entry ∷ parts.more);
      to = record { entries = parts.first; events = parts.handled_are; outs = refl; run = parts.to };
      from = record { entries = parts.entry ∷ parts.more; events = rw (parts.raw_is, parts.rest_are) refl; outs = refl; run = parts.from };
      room = λ e is. step_has_room parts.between parts.from.0 parts.entry parts.from.1 e (rw parts.raw_is is);
    }
