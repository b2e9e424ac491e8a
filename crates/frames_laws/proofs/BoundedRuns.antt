-- Runs of octets stay within the bounds of the machine.
use Rattle.std.proofs.Common.{◌<◌, ◌≤◌, List, [], ◌∷◌, length, sym, subst}
use Rattle.std.specs.Prelude.{map}
use Rattle.machine.specs.Keys.{Every}
use Rattle.machine.specs.Sent.{Out}
use Rattle.machine.specs.Events.{Event, Frame, Clock, Expire, Operator}
use Rattle.machine.specs.declared.numbers.TheConstants.{SHARDS}
use Rattle.machine.specs.Legal.{Entry, events_of, answers_of}
use Rattle.machine.specs.Bounds.{AreDigits, ChangeInBounds, EventInBounds, OutInBounds, AnswerInBounds}
use Rattle.machine_laws.proofs.Within.{run_within}
use Rattle.x690.specs.declared.limits.TheConstants.{MAX_OCTETS}
use Rattle.frames.specs.Sane.{Sane}
use Rattle.frames.specs.OctetJournals.{SaneEntries}
use Rattle.frames.specs.Octets.{RawEvent, RawFrame, RawClock, RawExpire, RawChange, RawOut, RawEntry, IsEvent, spelled_out, SpellsJournal}
use Rattle.frames_laws.specs.JournalLaws.{RawInBounds, RunsStayInBounds}
use Rattle.frames_laws.proofs.BoundLaws.{verdict_within}
use Rattle.frames_laws.proofs.OctetLaws.{run_found}
use Rattle.frames_laws.proofs.SizeLaws.{sent_size}
use Rattle.frames_laws.proofs.SaneLaws.{sent_sane}

event_within : (raw : RawEvent) (e : Event) → RawInBounds raw → IsEvent raw e → EventInBounds e
event_within (RawFrame from octets) (Frame source v) h is = (subst AreDigits (sym is.0) h, verdict_within octets v is.1)
event_within (RawFrame from octets) (Clock n t) h is = absurd is
event_within (RawFrame from octets) (Expire n) h is = absurd is
event_within (RawFrame from octets) (Operator x c) h is = absurd is
event_within (RawClock shard now) (Frame source v) h is = absurd is
event_within (RawClock shard now) (Clock n t) h is = subst (λ m. m < SHARDS) (sym is.0) h
event_within (RawClock shard now) (Expire n) h is = absurd is
event_within (RawClock shard now) (Operator x c) h is = absurd is
event_within (RawExpire shard) (Frame source v) h is = absurd is
event_within (RawExpire shard) (Clock n t) h is = absurd is
event_within (RawExpire shard) (Expire n) h is = subst (λ m. m < SHARDS) (sym is) h
event_within (RawExpire shard) (Operator x c) h is = absurd is
event_within (RawChange imsi change) (Frame source v) h is = absurd is
event_within (RawChange imsi change) (Clock n t) h is = absurd is
event_within (RawChange imsi change) (Expire n) h is = absurd is
event_within (RawChange imsi change) (Operator x c) h is = subst ChangeInBounds (sym is.1) h

events_within : (raws : List RawEntry) (js : List Entry) → Every (λ raw. RawInBounds raw.event) raws → SpellsJournal raws js
    → Every EventInBounds (events_of js)
events_within [] [] h spells = tt
events_within [] (j ∷ js) h spells = absurd spells
events_within (r ∷ rs) [] h spells = absurd spells
events_within (r ∷ rs) (j ∷ js) h spells = (event_within r.event j.event h.0 spells.0.event, events_within rs js h.1 spells.1)

abbrev IsShort : RawOut → Type 0
IsShort out = length out.octets ≤ MAX_OCTETS

outs_short : (outs : List Out) → Every OutInBounds outs → Every IsShort (map spelled_out outs)
outs_short [] h = tt
outs_short (out ∷ outs) h = (sent_size out.message h.0.1, outs_short outs h.1)

entries_short : (raws : List RawEntry) (js : List Entry) → SpellsJournal raws js → Every AnswerInBounds (answers_of js)
    → Every (λ raw. Every IsShort raw.outs) raws
entries_short [] js spells h = tt
entries_short (r ∷ rs) [] spells h = absurd spells
entries_short (r ∷ rs) (j ∷ js) spells h = (subst (Every IsShort) (sym spells.0.outs) (outs_short j.answer.sent h.0), entries_short rs js spells.1 h.1)

outs_sane : (outs : List Out) → Every OutInBounds outs → Every (λ out. Sane out.message) outs
outs_sane [] h = tt
outs_sane (out ∷ outs) h = ((sent_sane out.message h.0.1).0, outs_sane outs h.1)

entries_sane : (js : List Entry) → Every AnswerInBounds (answers_of js) → SaneEntries js
entries_sane [] h = tt
entries_sane (j ∷ js) h = (outs_sane j.answer.sent h.0, entries_sane js h.1)

pub runs_stay_in_bounds : RunsStayInBounds
runs_stay_in_bounds = record {
  within = λ S T raws bounds events run.
      let (js, spells, goes) = run_found raws S T run in
      let after = run_within (events_of js) S T (answers_of js) bounds (events_within raws js events spells) goes in
      (after.0, entries_short raws js spells after.1);
  sane = λ S T raws js bounds events spells run.
      entries_sane js (run_within (events_of js) S T (answers_of js) bounds (events_within raws js events spells) run).1;
}
