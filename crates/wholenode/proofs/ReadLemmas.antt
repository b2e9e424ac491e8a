-- Events that are all read before the first is handled.
use Rattle.std.proofs.Common.{◌≡◌, List, [], ◌∷◌, ◌++◌, map, refl, sym, ap, subst, ◌∙◌, append_assoc}
use Rattle.std.proofs.lemmas.List.{append-nil, map-append}
use Rattle.frames.specs.Octets.{IsEvent, RawEvent}
use Rattle.hlrcore.specs.declared.event.Event.{Event}
use Rattle.hlrcore.specs.declared.event.EventFault.{EventFault}
use Rattle.hlrcore.specs.declared.event.EventFault.TheVariants as fault
use Rattle.hlrcore.specs.declared.event.RawEvent as code
use Rattle.hlrcore.specs.Events.{event_of, raw_event, raw_of}
use Rattle.hlrcore.specs.Taken.{IsEventFault}
use Rattle.shardlog.specs.declared.entry.Handled.{Handled}
use Rattle.wholenode.specs.declared.fault.Cause.{Cause}
use Rattle.wholenode.specs.Causes.{unread}
use Rattle.wholenode.specs.Handling.{Refuses, Runs, Takes}
use Rattle.wholenode.specs.Keeping.{NodeKeeps}
use Rattle.wholenode.specs.Nodes.{NodeState}
use Rattle.wholenode.specs.Reading.{AreRead, HasUnread}
use Rattle.wholenode.proofs.RunLemmas.{each_more}

-- ---- events are read

-- one more
read_more : (raws : List RawEvent) (events : List Event) (raw : RawEvent) (event : Event) → AreRead raws events → raw_of event ≡ raw → IsEvent raw (event_of event)
    → AreRead (raws ++ raw ∷ []) (events ++ event ∷ [])
read_more [] [] raw event read same is = (same, is, tt)
read_more [] (e ∷ es) raw event read same is = absurd read
read_more (r ∷ rs) [] raw event read same is = absurd read
read_more (r ∷ rs) (e ∷ es) raw event (first, of, rest) same is = (first, of, read_more rs es raw event rest same is)

pub read_next : (front : List code.RawEvent) (all : List Event) (raw : code.RawEvent) (event : Event) → AreRead (map raw_event front) all
    → raw_of event ≡ raw_event raw → IsEvent (raw_event raw) (event_of event)
    → AreRead (map raw_event (front ++ raw ∷ [])) (all ++ event ∷ [])
read_next front all raw event read same is =
    subst (λ (raws : List RawEvent). AreRead raws (all ++ event ∷ [])) (sym (map-append raw_event front (raw ∷ [])))
    (read_more (map raw_event front) all (raw_event raw) event read same is)

-- one of them is not
pub has_unread : (events front back : List code.RawEvent) (raw : code.RawEvent) (cause : Cause) → front ++ raw ∷ back ≡ events
    → ((node : NodeState) → Refuses node (raw_event raw) cause) → HasUnread (map raw_event events) cause
has_unread events front back raw cause is refused = record {
  before = map raw_event front;
  refused = raw_event raw;
  rest = map raw_event back;
  raws_are = ap (map raw_event) (sym is) ∙ map-append raw_event front (raw ∷ back);
  refuses = refused;
}

pub unread_refuses : (node : NodeState) (f : EventFault) (raw : RawEvent) → IsEventFault raw f → Refuses node raw (unread f)
unread_refuses node fault.Memory raw is = tt
unread_refuses node (fault.ResetRefused event) raw is = is

-- ---- those that were read are handled one after another

-- The first of them are handled, and the others are still to come.
pub record Reading (before : NodeState) (raws : List RawEvent) (done : List Handled) (left : List Event) (here : NodeState) : Type 0 where
  pub front : List RawEvent
  pub back : List RawEvent
  pub split : front ++ back ≡ raws
  pub read : AreRead back left
  pub runs : Runs before front done here
  pub keeps : NodeKeeps here

-- the next of them
pub record Next (back : List RawEvent) (event : Event) (left : List Event) : Type 0 where
  pub rest : List RawEvent
  pub back_is : back ≡ raw_of event ∷ rest
  pub is_event : IsEvent (raw_of event) (event_of event)
  pub read : AreRead rest left

next_of : (back : List RawEvent) (event : Event) (left : List Event) → AreRead back (event ∷ left) → Next back event left
next_of [] event left read = absurd read
next_of (raw ∷ rest) event left (same, is, read) = record {
  rest = rest;
  back_is = ap (λ (r : RawEvent). r ∷ rest) (sym same);
  is_event = subst (λ (r : RawEvent). IsEvent r (event_of event)) (sym same) is;
  read = read;
}

module _ (before : NodeState) (raws : List RawEvent) (done : List Handled) (event : Event) (left : List Event) (here : NodeState)
    (h : Reading before raws done (event ∷ left) here) where
  pub reading_next : Next h.back event left
  reading_next = next_of h.back event left h.read

  pub reading_event : IsEvent (raw_of event) (event_of event)
  reading_event = reading_next.is_event

  pub reading_goes_on : (handled : Handled) (after : NodeState) → Takes here (raw_of event) handled after → NodeKeeps after
      → Reading before raws (done ++ handled ∷ []) left after
  reading_goes_on handled after takes keeps = record {
    front = h.front ++ raw_of event ∷ [];
    back = reading_next.rest;
    split = append_assoc h.front (raw_of event ∷ []) reading_next.rest ∙ ap (λ (l : List RawEvent). h.front ++ l) (sym reading_next.back_is) ∙ h.split;
    read = reading_next.read;
    runs = each_more Takes before here after h.front done (raw_of event) handled h.runs takes;
    keeps = keeps;
  }

none_left : (back : List RawEvent) → AreRead back [] → back ≡ []
none_left [] read = refl
none_left (raw ∷ rest) read = absurd read

pub reading_ends : (before : NodeState) (raws : List RawEvent) (done : List Handled) (left : List Event) (here : NodeState)
    → Reading before raws done left here → left ≡ [] → Runs before raws done here
reading_ends before raws done left here h none =
    let nothing : h.back ≡ [] = none_left h.back (subst (λ (es : List Event). AreRead h.back es) none h.read) in
    subst (λ (rs : List RawEvent). Runs before rs done here)
    (sym (append-nil h.front) ∙ ap (λ (l : List RawEvent). h.front ++ l) (sym nothing) ∙ h.split) h.runs

-- events that were read are as the machine has them, each by itself
pub read_alone : (raws : List RawEvent) (events : List Event) → AreRead raws events → (map raw_of events ≡ raws) × AreRead (map raw_of events) events
read_alone [] [] read = (refl, tt)
read_alone [] (e ∷ es) read = absurd read
read_alone (r ∷ rs) [] read = absurd read
read_alone (r ∷ rs) (e ∷ es) (same, is, rest) =
    let more = read_alone rs es rest in (
      ap (λ (raw : RawEvent). raw ∷ map raw_of es) same ∙ ap (λ (raws : List RawEvent). r ∷ raws) more.0,
      (refl, subst (λ (raw : RawEvent). IsEvent raw (event_of e)) (sym same) is, more.1),
    )
