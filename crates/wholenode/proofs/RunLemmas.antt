-- Events that are handled one after another, and those that are not.
use Rattle.std.proofs.Common.{◌≡◌, ℕ, suc, ◌+◌, ◌<◌, List, [], ◌∷◌, ◌++◌, map, length, take, drop, get_or, set, refl, sym, ap, subst, ◌∙◌}
use Rattle.std.specs.Prelude.{Result, Err, Some, slice_get}
use Rattle.std.proofs.lemmas.List.{map-append, take_more}
use Rattle.std.proofs.Math.Seq.{split_at, take-length}
use Rattle.machine.specs.Events.{Event}
use Rattle.machine.specs.Routing.{route}
use Rattle.machine.specs.Step.{HasNoRoom}
use Rattle.frames.specs.Octets.{IsEvent, IsRouted, RawEvent, StepOctets}
use Rattle.hlrcore.specs.declared.event.RawEvent as code
use Rattle.hlrcore.specs.Events.{raw_event}
use Rattle.records.specs.Maps.{DirectoryMap}
use Rattle.hlrcore.specs.Shards.{directory_of, state_of}
use Rattle.shardlog.specs.declared.entry.Handled.{Handled}
use Rattle.shardlog.specs.declared.fault.ShardFault.{ShardFault}
use Rattle.shardlog.specs.declared.fault.ShardFault.TheVariants as shard
use Rattle.shardlog.specs.Handling.{Handles, LeavesUnnamed}
use Rattle.shardlog.specs.Log.{Log}
use Rattle.shardlog.proofs.LogLemmas.{leaves_unnamed}
use Rattle.wholenode.specs.declared.fault.Cause.{Cause}
use Rattle.wholenode.specs.Causes.{unhandled}
use Rattle.wholenode.specs.Handling.{Each, IsFor, IsFullJournal, IsRun, Refuses, Runs, Stops, Takes, sent_of}
use Rattle.wholenode.specs.Keeping.{AreShards}
use Rattle.wholenode.specs.Nodes.{NodeState, node, whole}
use Rattle.wholenode.proofs.WholeLemmas.{no_room, whole_step}

pub takes : (before : NodeState) (directory : DirectoryMap) (shards : List Log) (raw : RawEvent) (handled : Handled) (n : ℕ) (l m : Log)
    → node directory shards ≡ before
    → AreShards directory shards → slice_get shards n ≡ Some l → IsRouted (directory_of directory) raw n → Handles l raw handled m
    → Takes before raw handled (node directory (set shards n m))
takes before directory shards raw handled n l m seen are at routed handles =
    let step : StepOctets (whole shards) handles.entry (whole (set shards n m)) =
    whole_step directory shards raw n l m handles.entry are at routed handles.event_is handles.step in
    subst (λ (b : NodeState). Takes b raw handled (node directory (set shards n m))) seen (record {
      place = n;
      shard = l;
      is_for = record { routed = routed; stands = at };
      next = m;
      handles = handles;
      changed = refl;
      step = step;
      unnamed = subst (λ (r : RawEvent). LeavesUnnamed (whole shards) r (whole (set shards n m))) handles.event_is
          (leaves_unnamed (whole shards) (whole (set shards n m)) handles.entry step);
    })

-- one more event
pub each_more : {A : Type 0} (T : NodeState → RawEvent → A → NodeState → Type 0) (a b c : NodeState) (raws : List RawEvent) (done : List A)
    (raw : RawEvent) (more : A) → Each T a raws done b → T b raw more c → Each T a (raws ++ raw ∷ []) (done ++ more ∷ []) c
each_more T a b c [] [] raw more runs one = (c, subst (λ (n : NodeState). T n raw more c) runs one, refl)
each_more T a b c [] (h ∷ hs) raw more runs one = absurd runs
each_more T a b c (r ∷ rs) [] raw more runs one = absurd runs
each_more T a b c (r ∷ rs) (h ∷ hs) raw more (m, first, rest) one = (m, first, each_more T m b c rs hs raw more rest one)

-- for the whole state they are a run
pub is_run : (a b : NodeState) (raws : List RawEvent) (done : List Handled) → Runs a raws done b
    → IsRun (whole a.shards) raws (map sent_of done) (whole b.shards)
is_run a b [] [] runs = record { entries = []; events = refl; outs = refl; run = ap (λ (n : NodeState). whole n.shards) runs }
is_run a b [] (h ∷ hs) runs = absurd runs
is_run a b (r ∷ rs) [] runs = absurd runs
is_run a b (r ∷ rs) (h ∷ hs) (m, first, rest) =
    let more = is_run m b rs hs rest in
    record {
      entries = first.handles.entry ∷ more.entries;
      events = λ i. first.handles.event_is i ∷ more.events i;
      outs = λ i. (sym first.handles.outs_are) i ∷ more.outs i;
      run = (whole m.shards, first.step, more.run);
    }

-- ---- why an event is refused

-- a shard has one answer
pub full_first : {A : Type 0} {answer : Result A ShardFault} → answer ≡ Err shard.NoRoom → answer ≡ Err shard.JournalFull → ⊥
full_first none full = cc

pub refuses : (before : NodeState) (directory : DirectoryMap) (shards : List Log) (raw : RawEvent) (e : Event) (fault : ShardFault) (n : ℕ)
    (l : Log)
    → node directory shards ≡ before → AreShards directory shards → slice_get shards n ≡ Some l → IsEvent raw e
    → route (directory_of directory) e ≡ n
    → (fault ≡ shard.JournalFull → IsFullJournal l)
    → (fault ≡ shard.NoRoom → HasNoRoom (state_of l.state) e × (IsFullJournal l → ⊥))
    → Refuses before raw (unhandled fault)
refuses before directory shards raw e fault n l seen are at is routed full none = subst (λ (b : NodeState). Refuses b raw (unhandled fault))
    seen (by fault full none)
  where
    here : IsFor (node directory shards) raw n l
    here = record { routed = (e, is, routed); stands = at }

    by : (f : ShardFault) → (f ≡ shard.JournalFull → IsFullJournal l)
        → (f ≡ shard.NoRoom → HasNoRoom (state_of l.state) e × (IsFullJournal l → ⊥))
        → Refuses (node directory shards) raw (unhandled f)
    by shard.NotMine full none = tt
    by shard.JournalFull full none = (n, l, here, full refl)
    by shard.NoRoom full none = record {
      place = n;
      shard = l;
      is_for = here;
      not_full = (none refl).1;
      event = e;
      is_event = is;
      no_room = no_room directory shards n l e are at routed (none refl).0;
    }
    by shard.Memory full none = tt

-- ---- a list of events, up to a place

next_one : (events : List code.RawEvent) (i : ℕ) (event : code.RawEvent) → i < length events → event ≡ get_or events i event
    → map raw_event (take (i + 1) events) ≡ map raw_event (take i events) ++ raw_event event ∷ []
next_one events i event lt is =
    ap (map raw_event) (take_more events i event lt ∙ ap (λ (e : code.RawEvent). take i events ++ e ∷ []) (sym is))
    ∙ map-append raw_event (take i events) (event ∷ [])

pub handled_more : (before so_far after : NodeState) (events : List code.RawEvent) (i : ℕ) (event : code.RawEvent) (done : List Handled)
    (handled : Handled) → i < length events
    → event ≡ get_or events i event → Runs before (map raw_event (take i events)) done so_far → Takes so_far (raw_event event) handled after
    → Runs before (map raw_event (take (i + 1) events)) (done ++ handled ∷ []) after
handled_more before so_far after events i event done handled lt is runs more =
    subst (λ (raws : List RawEvent). Runs before raws (done ++ handled ∷ []) after) (sym (next_one events i event lt is))
    (each_more Takes before so_far after (map raw_event (take i events)) done (raw_event event) handled runs more)

split : (events : List code.RawEvent) (i : ℕ) (event : code.RawEvent) → i < length events → event ≡ get_or events i event
    → events ≡ take i events ++ event ∷ drop (suc i) events
split events i event lt is = split_at events i event lt ∙ ap (λ (e : code.RawEvent). take i events ++ e ∷ drop (suc i) events) (sym is)

stops_at : (before after : NodeState) (events front back : List code.RawEvent) (event : code.RawEvent) (done : List Handled) (cause : Cause)
    → front ++ event ∷ back ≡ events → Runs before (map raw_event front) done after → Refuses after (raw_event event) cause
    → Stops before (map raw_event events) done cause after
stops_at before after events front back event done cause is runs refused = record {
  handled = map raw_event front;
  next = raw_event event;
  rest = map raw_event back;
  raws_are = ap (map raw_event) (sym is) ∙ map-append raw_event front (event ∷ back);
  runs = runs;
  run = is_run before after (map raw_event front) done runs;
  refuses = refused;
}

pub stops : (before after : NodeState) (events : List code.RawEvent) (i : ℕ) (event : code.RawEvent) (done : List Handled) (cause : Cause)
    → i < length events
    → event ≡ get_or events i event → Runs before (map raw_event (take i events)) done after → Refuses after (raw_event event) cause
    → Stops before (map raw_event events) done cause after
stops before after events i event done cause lt is runs refused =
    stops_at before after events (take i events) (drop (suc i) events) event done cause (sym (split events i event lt is)) runs refused

pub all_handled : (before after : NodeState) (events : List code.RawEvent) (i : ℕ) (done : List Handled) → i ≡ length events
    → Runs before (map raw_event (take i events)) done after
    → Runs before (map raw_event events) done after
all_handled before after events i done all runs =
    subst (λ (es : List code.RawEvent). Runs before (map raw_event es) done after)
    (ap (λ (n : ℕ). take n events) all ∙ take-length events) runs

-- ---- a list of events, each taken off it

pub handled_next : (before so_far after : NodeState) (front : List code.RawEvent) (event : code.RawEvent) (done : List Handled) (handled : Handled)
    → Runs before (map raw_event front) done so_far → Takes so_far (raw_event event) handled after
    → Runs before (map raw_event (front ++ event ∷ [])) (done ++ handled ∷ []) after
handled_next before so_far after front event done handled runs more =
    subst (λ (raws : List RawEvent). Runs before raws (done ++ handled ∷ []) after) (sym (map-append raw_event front (event ∷ [])))
    (each_more Takes before so_far after (map raw_event front) done (raw_event event) handled runs more)
