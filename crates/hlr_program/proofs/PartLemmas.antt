-- Room in the journals, the cuts that make it, and events that are handled where there is room.
use Rattle.std.proofs.Common.{◌≡◌, ℕ, suc, ◌+◌, ◌<◌, ◌≤◌, List, [], ◌∷◌, ◌++◌, drop, get_or, map, length, length-append, append_assoc, set, refl, sym, ap, subst, ◌∙◌, arith, inl, inr}
use Rattle.std.specs.List.{flat_map}
use Rattle.std.specs.Prelude.{◌⊎◌, Option, Some, None, option_map, slice_get}
use Rattle.std.proofs.lemmas.Bool.{cases_eq, cases_order}
use Rattle.std.proofs.lemmas.List.{append-nil, drop_more}
use Rattle.std.proofs.lemmas.Option.{slice_get_past, slice_get_within}
use Rattle.machine.specs.declared.numbers.TheConstants.{MAX_ENTRIES}
use Rattle.machine.specs.State.{State}
use Rattle.frames.specs.Octets.{RawEvent, RawOut}
use Rattle.hlrcore.specs.declared.event.Event.{Event}
use Rattle.hlrcore.specs.Events.{raw_of}
use Rattle.records.specs.Loaded.{Subscribers}
use Rattle.shardlog.specs.declared.entry.Handled.{Handled}
use Rattle.shardlog.specs.declared.keep.Keep.{Keep}
use Rattle.shardlog.specs.declared.keep.Keep.TheVariants.{Entries, Nothing}
use Rattle.shardlog.specs.Log.{Log, cut_log}
use Rattle.wholenode.specs.declared.fault.Cause.{Cause}
use Rattle.wholenode.specs.declared.fault.Cause.TheVariants as cause
use Rattle.wholenode.specs.Handling.{Drops, IsRun, Refuses, Runs, Takes, sent_of}
use Rattle.wholenode.specs.Keeping.{NodeKeeps}
use Rattle.wholenode.specs.Nodes.{NodeState, whole}
use Rattle.wholenode.specs.Opening.{BeginsWith}
use Rattle.wholenode.specs.Reading.{AreRead, HasUnread}
use Rattle.wholenode.proofs.Places.{set_elsewhere, set_or_not, set_there}
use Rattle.wholenode.proofs.ReadLemmas.{Reading, reading_ends, reading_goes_on, reading_next}
use Rattle.wholenode.proofs.RunLemmas.{is_run}
use Rattle.hlr_program.specs.Journals.{RunsAlone}
use Rattle.hlr_program.specs.Parts.{AreCut, HasRoom, IsReady, KeepsAs, MakesRoom}
use Rattle.hlr_program.specs.Printed.{Prints, SoFar}
use Rattle.hlr_program.specs.Statuses.{stopped_by}
use Rattle.hlr_program.specs.Stopping.{EventsStop}
use Rattle.hlr_program.proofs.JournalLemmas.{continues_none, entry_added, made_at_end, made_whole, runs_alone, runs_keep, takes_keep}
use Rattle.hlr_program.proofs.PrintLemmas.{prints_join, prints_none}
use Rattle.hlr_program.proofs.RunLemmas.{no_run}

-- ---- all journals are cut, one after the other

-- the first n shards are cut
pub record Cutting (before : NodeState) (count : ℕ) (here : NodeState) : Type 0 where
  pub directory : here.directory ≡ before.directory
  pub cut : (n : ℕ) → n < count → slice_get here.shards n ≡ option_map cut_log (slice_get before.shards n)
  pub uncut : (n : ℕ) → count ≤ n → slice_get here.shards n ≡ slice_get before.shards n
  pub keeps : NodeKeeps here

pub cutting_begins : (before : NodeState) → NodeKeeps before → Cutting before 0 before
cutting_begins before keeps = record { directory = refl; cut = λ n lt. absurd (omega (arith, lt)); uncut = λ n le. refl; keeps = keeps }

pub cutting_goes_on : (before here next : NodeState) (count : ℕ) → Cutting before count here → Drops here count next → NodeKeeps next
    → Cutting before (count + 1) next
cutting_goes_on before here next count h c keeps = record {
  directory = ap (λ (n : NodeState). n.directory) c.changed ∙ h.directory;
  cut = λ n lt. ap (λ (m : NodeState). slice_get m.shards n) c.changed ∙ at n lt (cases_eq count n);
  uncut = λ n le. ap (λ (m : NodeState). slice_get m.shards n) c.changed
      ∙ set_elsewhere here.shards count n (cut_log c.shard) (λ e. absurd (omega (arith, e, le))) ∙ h.uncut n (omega (arith, le));
  keeps = keeps;
}
  where
    at : (n : ℕ) → n < count + 1 → (count ≡ n) ⊎ (count ≡ n → ⊥)
        → slice_get (set here.shards count (cut_log c.shard)) n ≡ option_map cut_log (slice_get before.shards n)
    at n lt (inl e) =
        ap (slice_get (set here.shards count (cut_log c.shard))) (sym e)
        ∙ set_there here.shards count (cut_log c.shard) (slice_get_within here.shards count c.shard c.stands)
        ∙ sym (ap (option_map cut_log) (sym (h.uncut n (omega (arith, e))) ∙ ap (slice_get here.shards) (sym e) ∙ c.stands))
    at n lt (inr ne) = set_elsewhere here.shards count n (cut_log c.shard) ne ∙ h.cut n (omega (arith, lt, ne))

pub cutting_ends : (before here : NodeState) (count : ℕ) → count ≡ 16 → Cutting before count here → AreCut before here
cutting_ends before here count all h = record {
  directory = h.directory;
  each = λ n. at n (cut_or_past n count);
}
  where
    cut_or_past : (n k : ℕ) → (n < k) ⊎ (k ≤ n)
    cut_or_past n k = elim (cases_order n k) [
      | inl same ↦ inr (omega (arith, same))
      | inr ordered ↦ elim ordered [ inl lt ↦ inl lt | inr gt ↦ inr (omega (arith, gt)) ]
    ]

    at : (n : ℕ) → (n < count) ⊎ (count ≤ n) → slice_get here.shards n ≡ option_map cut_log (slice_get before.shards n)
    at n (inl lt) = h.cut n lt
    at n (inr le) =
        let past : slice_get here.shards n ≡ None = slice_get_past here.shards n (omega (arith, all, le, h.keeps.shards.count)) in
        past ∙ sym (ap (option_map cut_log) (sym (h.uncut n le) ∙ past))

empty_cut : (o : Option Log) (l : Log) → option_map cut_log o ≡ Some l → l.entries ≡ []
empty_cut None l e = absurd cc
empty_cut (Some k) l e = let same : cut_log k ≡ l = cc in ap (λ (m : Log). m.entries) (sym same)

pub cut_room : (before after : NodeState) → AreCut before after → HasRoom after MAX_ENTRIES
cut_room before after cut = λ n l at.
    let none : l.entries ≡ [] = empty_cut (slice_get before.shards n) l (sym (cut.each n) ∙ at) in
    let few : length l.entries ≡ 0 = ap length none in
    omega (arith, few)

pub less_room : (node : NodeState) (more count : ℕ) → count ≤ more → HasRoom node more → HasRoom node count
less_room node more count le room = λ n l at. omega (arith, le, room n l at)

pub ready_less : (keep : Keep) (node : NodeState) (more count : ℕ) → count ≤ more → IsReady keep node more → IsReady keep node count
ready_less keep node more count le h = record { sound = h.sound; keeps = h.keeps; room = λ listed. less_room node more count le (h.room listed) }

-- ---- room is made

cut_keeps : (keep : Keep) (before after : NodeState) → AreCut before after → KeepsAs keep before → KeepsAs keep after
cut_keeps keep before after cut keeps n l at = by (slice_get before.shards n) refl (sym (cut.each n) ∙ at)
  where
    by : (o : Option Log) → slice_get before.shards n ≡ o → option_map cut_log o ≡ Some l → l.keep ≡ keep
    by None is e = absurd cc
    by (Some k) is e = let same : cut_log k ≡ l = cc in ap (λ (m : Log). m.keep) (sym same) ∙ keeps n k is

made_keeps : (keep : Keep) (before ready : NodeState) (count : ℕ) → MakesRoom before count ready → KeepsAs keep before → KeepsAs keep ready
made_keeps keep before ready count (inl (room, same)) keeps = subst (KeepsAs keep) (sym same) keeps
made_keeps keep before ready count (inr (none, cut)) keeps = cut_keeps keep before ready cut keeps

pub made_ready : (keep : Keep) (before ready : NodeState) (count had : ℕ) → MakesRoom before count ready → HasRoom ready count → NodeKeeps ready
    → IsReady keep before had → IsReady keep ready count
made_ready keep before ready count had makes room sound h = record {
  sound = sound;
  keeps = made_keeps keep before ready count makes h.keeps;
  room = λ listed. room;
}

-- where no entry is kept there is room for any number
pub unlisted_ready : (keep : Keep) (node : NodeState) (had count : ℕ) → keep ≡ Nothing → IsReady keep node had → IsReady keep node count
unlisted_ready keep node had count unlisted h = record { sound = h.sound; keeps = h.keeps; room = λ listed. absurd cc }

-- no event is handled by it
pub room_runs : (before ready : NodeState) (count : ℕ) → MakesRoom before count ready → RunsAlone before [] [] ready
room_runs before ready count makes = (
  subst (λ (S : State). IsRun S [] [] (whole ready.shards)) (made_whole before ready count makes) (no_run (whole ready.shards)),
  λ begin events sent h. made_at_end begin (events ++ []) (sent ++ []) before ready count makes (continues_none before begin events sent h),
)

pub nothing_runs : (before after : NodeState) → after ≡ before → RunsAlone before [] [] after
nothing_runs before after same =
    subst (λ (n : NodeState). RunsAlone before [] [] n) (sym same) (no_run (whole before.shards), continues_none before)

-- ---- events are handled

takes_room : (before : NodeState) (raw : RawEvent) (handled : Handled) (after : NodeState) (count : ℕ) → Takes before raw handled after
    → KeepsAs Entries before → HasRoom before (suc count) → HasRoom after count
takes_room before raw handled after count t keeps room = λ n l at.
    elim (set_or_not before.shards t.place n t.next l (sym (ap (λ (m : NodeState). slice_get m.shards n) t.changed) ∙ at)) [
      | inl h ↦
          let added : t.next.entries ≡ t.shard.entries ++ t.handles.entry ∷ [] =
          ap (λ (m : Log). m.entries) (entry_added t.shard t.next raw handled (keeps t.place t.shard t.is_for.stands) t.handles) in
          let longer : length l.entries ≡ length t.shard.entries + 1 = ap (λ (m : Log). length m.entries) (sym h.1) ∙ ap length added
          ∙ length-append t.shard.entries (t.handles.entry ∷ []) in
          omega (arith, longer, room t.place t.shard t.is_for.stands)
      | inr h ↦ omega (arith, room n l h)
    ]

runs_room : (before : NodeState) (raws : List RawEvent) (done : List Handled) (after : NodeState) (count : ℕ) → Runs before raws done after
    → KeepsAs Entries before → HasRoom before (length raws + count) → HasRoom after count
runs_room before [] [] after count runs keeps room = subst (λ (n : NodeState). HasRoom n count) (sym runs) (less_room before (0 + count) count (omega arith) room)
runs_room before [] (d ∷ ds) after count runs keeps room = absurd runs
runs_room before (r ∷ rs) [] after count runs keeps room = absurd runs
runs_room before (r ∷ rs) (d ∷ ds) after count (between, first, more) keeps room =
    runs_room between rs ds after count more (takes_keep Entries before r d between first keeps)
    (takes_room before r d between (length rs + count) first keeps
    (less_room before (length (r ∷ rs) + count) (suc (length rs + count)) (omega arith) room))

pub runs_ready : (keep : Keep) (before : NodeState) (raws : List RawEvent) (done : List Handled) (after : NodeState) (count : ℕ) → NodeKeeps after
    → Runs before raws done after → IsReady keep before (length raws + count) → IsReady keep after count
runs_ready keep before raws done after count sound runs h = record {
  sound = sound;
  keeps = runs_keep keep before raws done after runs h.keeps;
  room = λ listed. runs_room before raws done after count runs (subst (λ (k : Keep). KeepsAs k before) listed h.keeps) (h.room listed);
}

-- no journal is full where there is room
pub not_full : (keep : Keep) (node : NodeState) (raw : RawEvent) (c : Cause) (count : ℕ) → IsReady keep node (suc count) → Refuses node raw c
    → c ≡ cause.JournalFull → ⊥
not_full keep node raw c count h refused full = by keep h (subst (λ (k : Cause). Refuses node raw k) full refused)
  where
    by : (k : Keep) → IsReady k node (suc count) → Refuses node raw cause.JournalFull → ⊥
    by Entries h (n, l, for, full) = let at = h.room refl n l for.stands in omega (arith, full.1, at)
    by Nothing h (n, l, for, full) =
        let none : l ≡ cut_log l = (h.sound.shards.each n l for.stands).keeps.none (h.keeps n l for.stands) in
        let empty : length l.entries ≡ 0 = ap (λ (k : Log). length k.entries) none in
        omega (arith, full.1, empty)

-- the first events are a run, and the next one is refused
pub refused_stops : (before here : NodeState) (raws handled : List RawEvent) (next : RawEvent) (rest : List RawEvent) (sent : List (List RawOut)) (c : Cause)
    → raws ≡ handled ++ next ∷ rest → IsRun (whole before.shards) handled sent (whole here.shards) → Refuses here next c
    → EventsStop (Some (whole before.shards)) raws (stopped_by c)
refused_stops before here raws handled next rest sent cause.Memory split run refused = tt
refused_stops before here raws handled next rest sent cause.ResetRefused split run refused = tt
refused_stops before here raws handled next rest sent cause.JournalFull split run refused = tt
refused_stops before here raws handled next rest sent cause.NoRoom split run refused = record {
  handled = handled;
  next = next;
  rest = rest;
  split = split;
  sent = sent;
  met = whole here.shards;
  run = run;
  event = refused.event;
  is_event = refused.is_event;
  no_room = refused.no_room;
}

-- events of which one was not read
pub unread_stops : (node : NodeState) (raws : List RawEvent) (c : Cause) → HasUnread raws c → EventsStop (Some (whole node.shards)) raws (stopped_by c)
unread_stops node raws cause.Memory unread = tt
unread_stops node raws cause.ResetRefused unread = tt
unread_stops node raws cause.JournalFull unread = tt
unread_stops node raws cause.NoRoom unread =
    let lacks = unread.refuses (record node { shards = [] }) in
    let none : None ≡ Some lacks.shard = lacks.is_for.stands in
    absurd cc

-- ---- one event by itself

pub one_sends : (keep : Keep) (before : NodeState) (raw : RawEvent) (handled : Handled) (after : NodeState) (count : ℕ) → IsReady keep before count
    → NodeKeeps after → Takes before raw handled after → RunsAlone before (raw ∷ []) (sent_of handled ∷ []) after
one_sends keep before raw handled after count h sound t = runs_alone keep before (raw ∷ []) (handled ∷ []) after h.sound h.keeps sound (after, t, refl)

pub one_ready : (keep : Keep) (before : NodeState) (raw : RawEvent) (handled : Handled) (after : NodeState) (more : ℕ) → NodeKeeps after
    → Takes before raw handled after → IsReady keep before (1 + more) → IsReady keep after more
one_ready keep before raw handled after more sound t h = runs_ready keep before (raw ∷ []) (handled ∷ []) after more sound (after, t, refl) h

pub one_stops : (node : NodeState) (raw : RawEvent) (c : Cause) → Refuses node raw c → EventsStop (Some (whole node.shards)) (raw ∷ []) (stopped_by c)
one_stops node raw c refused = refused_stops node node (raw ∷ []) [] raw [] [] c refl (no_run (whole node.shards)) refused

-- ---- a lot is handled

flat_of : (done : List Handled) → flat_map (λ o. o) (map sent_of done) ≡ flat_map sent_of done
flat_of [] = refl
flat_of (d ∷ ds) = ap (λ (l : List RawOut). sent_of d ++ l) (flat_of ds)

flat_more : (done : List Handled) (d : Handled) → flat_map sent_of (done ++ d ∷ []) ≡ flat_map sent_of done ++ sent_of d
flat_more [] d = append-nil (sent_of d)
flat_more (h ∷ hs) d = ap (λ (l : List RawOut). sent_of h ++ l) (flat_more hs d) ∙ sym (append_assoc (sent_of h) (flat_map sent_of hs) (sent_of d))

-- Events that were read are handled one after another, and the lines of what each sends are made; these are left.
pub record Sending (before : NodeState) (raws : List RawEvent) (printed : SoFar) (left : List Event) (here : NodeState) (answers : SoFar) : Type 0 where
  pub done : List Handled
  pub reading : Reading before raws done left here
  pub prints : Prints printed (flat_map sent_of done) answers

pub sending_begins : (keep : Keep) (before : NodeState) (raws : List RawEvent) (printed : SoFar) (left : List Event) (count : ℕ) → AreRead raws left
    → IsReady keep before count → Sending before raws printed left before printed
sending_begins keep before raws printed left count read h = record {
  done = [];
  reading = record { front = []; back = raws; split = refl; read = read; runs = refl; keeps = h.sound };
  prints = prints_none printed;
}

-- those from a place on are the one there and those after it
pub sending_at : (before : NodeState) (raws : List RawEvent) (printed : SoFar) (all : List Event) (i : ℕ) (event : Event) (here : NodeState) (answers : SoFar)
    → i < length all → Sending before raws printed (drop i all) here answers
    → Sending before raws printed (get_or all i event ∷ drop (i + 1) all) here answers
sending_at before raws printed all i event here answers within h =
    subst (λ (left : List Event). Sending before raws printed left here answers) (drop_more all i event within) h

pub sending_goes_on : (before : NodeState) (raws : List RawEvent) (printed : SoFar) (event : Event) (left : List Event) (here next : NodeState)
    (answers more : SoFar) (handled : Handled)
    → Sending before raws printed (event ∷ left) here answers → Takes here (raw_of event) handled next → NodeKeeps next
    → Prints answers (sent_of handled) more → Sending before raws printed left next more
sending_goes_on before raws printed event left here next answers more handled h takes keeps prints = record {
  done = h.done ++ handled ∷ [];
  reading = reading_goes_on before raws h.done event left here h.reading handled next takes keeps;
  prints = subst (λ (frames : List RawOut). Prints printed frames more) (sym (flat_more h.done handled))
      (prints_join printed answers more (flat_map sent_of h.done) (sent_of handled) h.prints prints);
}

pub sending_ends : (keep : Keep) (before : NodeState) (raws : List RawEvent) (printed : SoFar) (left : List Event) (here : NodeState) (answers : SoFar)
    (count : ℕ)
    → IsReady keep before count → Sending before raws printed left here answers → left ≡ []
    → (outs : List (List RawOut)) × RunsAlone before raws outs here × Prints printed (flat_map (λ o. o) outs) answers
sending_ends keep before raws printed left here answers count h s none = (
  map sent_of s.done,
  runs_alone keep before raws s.done here h.sound h.keeps s.reading.keeps (reading_ends before raws s.done left here s.reading none),
  subst (λ (frames : List RawOut). Prints printed frames answers) (sym (flat_of s.done)) s.prints,
)

-- there still is room for others
reading_ready : (before : NodeState) (raws : List RawEvent) (done : List Handled) (left : List Event) (here : NodeState)
    → Reading before raws done left here → (keep : Keep) (more : ℕ) → IsReady keep before (length raws + more) → IsReady keep here more
reading_ready before raws done left here r keep more h =
    let long : length raws ≡ length r.front + length r.back = ap length (sym r.split) ∙ length-append r.front r.back in
    runs_ready keep before r.front done here more r.keeps r.runs
    (ready_less keep before (length raws + more) (length r.front + more) (omega (arith, long)) h)

pub sending_ready : (before : NodeState) (raws : List RawEvent) (printed : SoFar) (left : List Event) (here : NodeState) (answers : SoFar)
    → Sending before raws printed left here answers → (keep : Keep) (more : ℕ) → IsReady keep before (length raws + more) → IsReady keep here more
sending_ready before raws printed left here answers s = reading_ready before raws s.done left here s.reading

-- also once the next one is handled
pub taken_ready : (before : NodeState) (raws : List RawEvent) (printed : SoFar) (event : Event) (left : List Event) (here next : NodeState)
    (answers : SoFar) (handled : Handled)
    → Sending before raws printed (event ∷ left) here answers → Takes here (raw_of event) handled next → NodeKeeps next
    → (keep : Keep) (more : ℕ) → IsReady keep before (length raws + more) → IsReady keep next more
taken_ready before raws printed event left here next answers handled s takes keeps =
    reading_ready before raws (s.done ++ handled ∷ []) left next (reading_goes_on before raws s.done event left here s.reading handled next takes keeps)

pub sending_not_full : (keep : Keep) (before : NodeState) (raws : List RawEvent) (printed : SoFar) (event : Event) (left : List Event) (here : NodeState)
    (answers : SoFar) (c : Cause)
    → IsReady keep before (length raws) → Sending before raws printed (event ∷ left) here answers → Refuses here (raw_of event) c
    → c ≡ cause.JournalFull → ⊥
sending_not_full keep before raws printed event left here answers c h s refused =
    let next = reading_next before raws s.done event left here s.reading in
    let long : length raws ≡ length s.reading.front + suc (length next.rest) =
    ap length (sym s.reading.split ∙ ap (λ (l : List RawEvent). s.reading.front ++ l) next.back_is)
    ∙ length-append s.reading.front (raw_of event ∷ next.rest) in
    not_full keep here (raw_of event) c (length next.rest)
    (runs_ready keep before s.reading.front s.done here (suc (length next.rest)) s.reading.keeps s.reading.runs
    (subst (λ (n : ℕ). IsReady keep before n) long h)) refused

pub sending_stops : (before : NodeState) (raws : List RawEvent) (printed : SoFar) (event : Event) (left : List Event) (here : NodeState) (answers : SoFar)
    (c : Cause)
    → Sending before raws printed (event ∷ left) here answers → Refuses here (raw_of event) c
    → EventsStop (Some (whole before.shards)) raws (stopped_by c)
sending_stops before raws printed event left here answers c s refused =
    let next = reading_next before raws s.done event left here s.reading in
    refused_stops before here raws s.reading.front (raw_of event) next.rest (map sent_of s.done) c
    (sym s.reading.split ∙ ap (λ (l : List RawEvent). s.reading.front ++ l) next.back_is)
    (is_run before here s.reading.front s.done s.reading.runs) refused

-- ---- at the beginning

pub opens_ready : (loaded : Subscribers) (keep : Keep) (node : NodeState) → BeginsWith loaded keep 0 node → NodeKeeps node → IsReady keep node 0
opens_ready loaded keep node begins sound = record {
  sound = sound;
  keeps = λ n l at. ap (λ (k : Log). k.keep) (begins.shards_are.each n l at).begins;
  room = λ listed n l at. let none : length l.entries ≡ 0 = ap (λ (k : Log). length k.entries) (begins.shards_are.each n l at).begins in omega (arith, none);
}
