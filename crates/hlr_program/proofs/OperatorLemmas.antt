-- A run of the whole register, shard by shard.
use Rattle.std.proofs.Common.{◌≡◌, ℕ, ◌+◌, ◌<◌, zero, suc, Bool, true, false, cond, ◌==◌, List, [], ◌∷◌, ◌++◌, length, length-append, map, refl, sym, ap, subst, ◌∙◌, arith, inl, inr, eq-eqb}
use Rattle.std.specs.Prelude.{◌⊎◌, Option, Some, None, nat_lt}
use Rattle.std.specs.List.{All, range_with_len, zip}
use Rattle.std.specs.List.Sorted.{IsPermutation}
use Rattle.std.proofs.lemmas.List.{map-append}
use Rattle.std.proofs.lemmas.List.Elements.{All-cons, All-head, All-nil, All-tail}
use Rattle.std.proofs.lemmas.List.Sorted.{All-permutation, IsPermutation-append, IsPermutation-map}
use Rattle.std.proofs.Math.Path.{fun_ext}
use Rattle.std.proofs.lemmas.Bool.{and_parts, cases_eq, ltb-true}
use Rattle.std.proofs.lemmas.List.FromFn.{map-range_with_len_more}
use Rattle.machine.specs.Events.{Event, Frame, Clock, Expire, Operator}
use Rattle.machine.specs.Holders.{serving}
use Rattle.machine.specs.Keys.{Every, put_at, shard_of, shard_of_id}
use Rattle.machine.specs.Legal.{Entry}
use Rattle.machine.specs.Parts.{Leaves, part}
use Rattle.machine.specs.Received.{Begin, Continue, End, Abort, Read}
use Rattle.machine.specs.Routing.{subject_of_begin, route, shard_of_subject, shard_named}
use Rattle.machine.specs.Sound.{Sound}
use Rattle.machine.specs.State.{State}
use Rattle.machine.specs.Step.{Step}
use Rattle.machine_laws.proofs.Merging.{OfPart, part_agrees, part_alike, part_sound, step_of_part}
use Rattle.machine_laws.proofs.Steps.{shard_small, step_sound}
use Rattle.machine_laws.proofs.Transfer.{put_at_same, put_at_other}
use Rattle.frames.specs.Octets.{IsEvent, RawChange, RawClock, RawEntry, RawEvent, RawExpire, RawFrame, RawOut, RunOctets, SpellsEntry}
use Rattle.frames.specs.OctetJournals.{AreHolders, LegalOctets, MergesOctets}
use Rattle.frames_laws.proofs.OctetLaws.{octets_append, octets_push}
use Rattle.shardlog.specs.Log.{Keeps, Log}
use Rattle.shardlog.proofs.LogLemmas.{joined_keep, leaves_unnamed}
use Rattle.wholenode.specs.Handling.{IsRun}
use Rattle.workers.specs.Shared.{HandsOut, event_and_frames}
use Rattle.workers.proofs.Runs.{run_join}
use Rattle.wholenode.specs.Nodes.{whole, whole_base}
use Rattle.hlr_input.specs.Script.{Line, Frame as Sent, Clock as Ticks, Expire as Expires, Batch, Codes, Withdraw}
use Rattle.hlr_program.specs.Operator.{IsKept, IsKeptInSomeOrder, IsKeptWith, LeadUnnamed, OperatorGets}
use Rattle.hlr_program.specs.Promise.{EndsWith}
use Rattle.hlr_program.specs.Sharing.{workers_for}
use Rattle.hlr_program.specs.Runs.{AreBatches, AreEvents, BatchRun, LinesEvents, events_in, frames_of, sent_in}
use Rattle.hlr_program.specs.Printed.{noted_in}

-- ---- events are for one of the sixteen shards

abbrev IsOfShard : RawEvent → Type 0
IsOfShard (RawFrame from octets) = Unit {0}
IsOfShard (RawClock shard now) = shard < 16
IsOfShard (RawExpire shard) = shard < 16
IsOfShard (RawChange imsi change) = Unit {0}

every_append : (P : RawEvent → Type 0) (xs ys : List RawEvent) → Every P xs → Every P ys → Every P (xs ++ ys)
every_append P [] ys h k = k
every_append P (x ∷ xs) ys h k = (h.0, every_append P xs ys h.1 k)

each_shard : (P : RawEvent → Type 0) (f : ℕ → RawEvent) (n : ℕ) → ((k : ℕ) → k < n → P (f k)) → Every P (map f (range_with_len 0 n))
each_shard P f zero h = tt
each_shard P f (suc n) h =
    let one : suc n ≡ n + 1 = omega arith in
    subst (λ (m : ℕ). Every P (map f (range_with_len 0 m))) (sym one)
    (subst (λ (es : List RawEvent). Every P es) (sym (map-range_with_len_more f 0 n n (omega arith)))
    (every_append P (map f (range_with_len 0 n)) (f n ∷ []) (each_shard P f n (λ k lt. h k (omega (arith, lt)))) (h n (omega arith), tt)))

said_of_shards : (ids : List (List ℕ)) (said : Line) (events : List RawEvent) → AreEvents ids said events → Every IsOfShard events
said_of_shards ids (Sent from field) events (groups, octets, stands, reads, is) = subst (Every IsOfShard) (sym is) (tt, tt)
said_of_shards ids (Ticks now) events is = subst (Every IsOfShard) (sym is) (each_shard IsOfShard (λ n. RawClock n now) 16 (λ k lt. lt))
said_of_shards ids Expires events is = subst (Every IsOfShard) (sym is) (each_shard IsOfShard (λ n. RawExpire n) 16 (λ k lt. lt))
said_of_shards ids Batch events is = subst (Every IsOfShard) (sym is) tt
said_of_shards ids (Codes imsi codes) events is = subst (Every IsOfShard) (sym is) (tt, tt)
said_of_shards ids (Withdraw imsi) events is = subst (Every IsOfShard) (sym is) (tt, tt)

lines_of_shards : (ids : List (List ℕ)) (ls : List (List ℕ)) (events : List RawEvent) → LinesEvents ids ls events → Every IsOfShard events
lines_of_shards ids [] events is = subst (Every IsOfShard) (sym is) tt
lines_of_shards ids (l ∷ ls) events (front, rest, (said, reads, are), more, is) =
    subst (Every IsOfShard) (sym is) (every_append IsOfShard front rest (said_of_shards ids said front are) (lines_of_shards ids ls rest more))

batches_of_shards : (ids : List (List ℕ)) (ls : List (List (List ℕ))) (bs : List BatchRun) → AreBatches ids ls bs → Every IsOfShard (events_in bs)
batches_of_shards ids [] [] h = tt
batches_of_shards ids [] (b ∷ bs) h = absurd h
batches_of_shards ids (l ∷ ls) [] h = absurd h
batches_of_shards ids (l ∷ ls) (b ∷ bs) h =
    every_append IsOfShard b.events (events_in bs) (lines_of_shards ids l b.events h.0) (batches_of_shards (noted_in ids (frames_of b)) ls bs h.2)

small_cond : (b : Bool) (n : ℕ) → (b ≡ true → n < 16) → cond b n 0 < 16
small_cond true n h = h refl
small_cond false n h = omega arith

named_small : (id : List ℕ) → shard_named id < 16
named_small id = small_cond _ (shard_of_id id) (λ e. ltb-true (shard_of_id id) 16 (and_parts (length id == 4) (nat_lt (shard_of_id id) 16) e).1)

asked_small : (o : Option (List ℕ)) → shard_of_subject o < 16
asked_small None = omega arith
asked_small (Some imsi) = shard_small imsi

route_small : (directory : List ℕ → Option (List ℕ)) (raw : RawEvent) (e : Event) → IsEvent raw e → IsOfShard raw → route directory e < 16
route_small directory (RawFrame from octets) (Frame source (Read (Begin origin name components))) is of = asked_small (subject_of_begin directory components)
route_small directory (RawFrame from octets) (Frame source (Read (Continue origin destination portion components))) is of = named_small destination
route_small directory (RawFrame from octets) (Frame source (Read (End destination portion components))) is of = named_small destination
route_small directory (RawFrame from octets) (Frame source (Read (Abort destination))) is of = named_small destination
route_small directory (RawFrame from octets) (Frame source verdict) is of = omega arith
route_small directory (RawFrame from octets) (Clock shard now) is of = absurd is
route_small directory (RawFrame from octets) (Expire shard) is of = absurd is
route_small directory (RawFrame from octets) (Operator imsi change) is of = absurd is
route_small directory (RawClock n t) (Clock shard now) is of = omega (arith, is.0, of)
route_small directory (RawClock n t) (Frame source verdict) is of = absurd is
route_small directory (RawClock n t) (Expire shard) is of = absurd is
route_small directory (RawClock n t) (Operator imsi change) is of = absurd is
route_small directory (RawExpire n) (Expire shard) is of = omega (arith, is, of)
route_small directory (RawExpire n) (Frame source verdict) is of = absurd is
route_small directory (RawExpire n) (Clock shard now) is of = absurd is
route_small directory (RawExpire n) (Operator imsi change) is of = absurd is
route_small directory (RawChange x c) (Operator imsi change) is of = shard_small imsi
route_small directory (RawChange x c) (Frame source verdict) is of = absurd is
route_small directory (RawChange x c) (Clock shard now) is of = absurd is
route_small directory (RawChange x c) (Expire shard) is of = absurd is

-- ---- a part of a state

part_directory : (S : State) (n : ℕ) → (part S n).directory ≡ S.directory
unfolding part
part_directory S n = refl

part_record : (S : State) (x : List ℕ) → (part S (shard_of x)).records x ≡ S.records x
unfolding part
part_record S x = ap (λ (b : Bool). cond b (S.records x) None) (eq-eqb (shard_of x) (shard_of x) refl)

part_again : (S : State) (n : ℕ) → part S n ≡ part (part S n) n
part_again S n = sym (part_alike n S (part S n) (part_agrees n S))

-- if a step changes only one shard, the part of another stays
part_stays : (S M : State) (m n : ℕ) → Leaves S M m → (m ≡ n → ⊥) → part M n ≡ part S n
part_stays S M m n leaves ne = part_alike n S M (record {
  records = λ x e. leaves.records x (λ at. ne (sym at ∙ e));
  dialogues = λ i e. leaves.dialogues i (λ at. ne (sym at ∙ e));
  clock = leaves.clocks n (λ at. ne (sym at));
  directory = leaves.directory;
  hlr = leaves.hlr;
})

empty_legal : (S : State) (n : ℕ) → n < 16 → Sound S → LegalOctets n (part S n) [] (part S n)
empty_legal S n lt sound = record {
  journal = [];
  spelled = tt;
  legal = record {
    is_shard = lt;
    run = refl;
    routed = tt;
    base_sound = part_sound n S sound;
    after_sound = part_sound n S sound;
    base_part = part_again S n;
    after_part = part_again S n;
  };
}

-- ---- a run is split by its shards

record Split (S : State) (raws : List RawEntry) (T : State) : Type 0 where
  journals : ℕ → List RawEntry
  merges : MergesOctets journals raws
  legal : (n : ℕ) → n < 16 → LegalOctets n (part S n) (journals n) (part T n)
  unnamed : LeadUnnamed S raws T

-- one more entry, in front
split_more : (S M T : State) (raw : RawEntry) (raws : List RawEntry) (entry : Entry) (spells : SpellsEntry raw entry) (step : Step S entry.event M entry.answer)
    → Sound S → IsOfShard raw.event
    → Split M raws T → Split S (raw ∷ raws) T
split_more S M T raw raws entry spells step sound of later = record {
  journals = put_at later.journals m (raw ∷ later.journals m);
  merges = (
    m,
    later.journals m,
    small,
    put_at_same later.journals m (raw ∷ later.journals m) m refl,
    subst (λ (f : ℕ → List RawEntry). MergesOctets f raws) (fun_ext (λ k. again k (cases_eq m k))) later.merges,
  );
  legal = λ n lt. at n lt (cases_eq m n);
  unnamed = (M, (entry, spells, step), leaves_unnamed S M raw (entry, spells, step), later.unnamed);
}
  where
    m : ℕ
    m = route S.directory entry.event

    small : m < 16
    small = route_small S.directory raw.event entry.event spells.event of

    of_part : OfPart S M entry.event entry.answer m
    of_part = step_of_part S M entry.event entry.answer sound step

    again : (k : ℕ) → (m ≡ k) ⊎ (m ≡ k → ⊥) → later.journals k ≡ put_at (put_at later.journals m (raw ∷ later.journals m)) m (later.journals m) k
    again k (inl e) = sym (put_at_same (put_at later.journals m (raw ∷ later.journals m)) m (later.journals m) k e ∙ ap later.journals e)
    again k (inr ne) =
        sym (put_at_other (put_at later.journals m (raw ∷ later.journals m)) m (later.journals m) k ne
        ∙ put_at_other later.journals m (raw ∷ later.journals m) k ne)

    one : (n : ℕ) → n < 16 → m ≡ n → LegalOctets n (part S n) (raw ∷ []) (part M n)
    one n lt e =
        octets_push n (part S n) (part S n) (part M n) [] raw (empty_legal S n lt sound)
        (entry.event, spells.event, ap (λ d. route d entry.event) (part_directory S n) ∙ e)
        (entry, spells, subst (λ (k : ℕ). Step (part S k) entry.event (part M k) entry.answer) e of_part.inside)

    at : (n : ℕ) → n < 16 → (m ≡ n) ⊎ (m ≡ n → ⊥) → LegalOctets n (part S n) (put_at later.journals m (raw ∷ later.journals m) n) (part T n)
    at n lt (inl e) =
        subst (λ (es : List RawEntry). LegalOctets n (part S n) es (part T n))
        (ap (λ (k : ℕ). raw ∷ later.journals k) (sym e) ∙ sym (put_at_same later.journals m (raw ∷ later.journals m) n e))
        (octets_append n (part S n) (part M n) (part T n) (raw ∷ []) (later.journals n) (one n lt e) (later.legal n lt))
    at n lt (inr ne) =
        subst (λ (es : List RawEntry). LegalOctets n (part S n) es (part T n)) (sym (put_at_other later.journals m (raw ∷ later.journals m) n ne))
        (subst (λ (P : State). LegalOctets n P (later.journals n) (part T n)) (part_stays S M m n of_part.outside ne) (later.legal n lt))

split : (S : State) (raws : List RawEntry) (T : State) → Sound S → Every IsOfShard (map (λ raw. raw.event) raws) → RunOctets S raws T → Split S raws T
split S [] T sound of run = record {
  journals = λ _. [];
  merges = λ n lt. refl;
  legal = λ n lt. subst (λ (U : State). LegalOctets n (part S n) [] (part U n)) (sym run) (empty_legal S n lt sound);
  unnamed = run;
}
split S (raw ∷ raws) T sound of (M, (entry, spells, step), rest) =
    split_more S M T raw raws entry spells step sound of.0 (split M raws T (step_sound S entry.event M entry.answer sound step) of.1 rest)

-- ---- what an operator gets

run_is_kept : (begin : State) (events : List RawEvent) (sent : List (List RawOut)) (end : State) → Sound begin → Every IsOfShard events
    → IsRun begin events sent end → IsKept begin events sent end
run_is_kept begin events sent end sound of run = record {
  run = run;
  journals = all.journals;
  merges = all.merges;
  keep = keep;
  holders = λ imsi. subst (λ r. AreHolders (shard_of imsi) (part begin (shard_of imsi)) (all.journals (shard_of imsi)) (part end (shard_of imsi)) imsi
      (serving r)) (part_record end imsi)
      ((keep (shard_of imsi) (shard_small imsi)).holders imsi);
  unnamed = all.unnamed;
}
  where
    all : Split begin run.entries end
    all = split begin run.entries end sound (subst (Every IsOfShard) (sym run.events) of) run.run

    keep : (n : ℕ) → n < 16 → Keeps n (part begin n) (all.journals n) (part end n)
    keep n lt = joined_keep n [] (part begin n) (part end n) (all.journals n) tt (all.legal n lt)

-- ---- with workers

zip_append : (es fs : List RawEvent) (x y : List (List RawOut)) → length x ≡ length es → zip (es ++ fs) (x ++ y) ≡ zip es x ++ zip fs y
zip_append [] fs [] y each = refl
zip_append [] fs (o ∷ x) y each = absurd (omega (arith, each))
zip_append (e ∷ es) fs [] y each = absurd (omega (arith, each))
zip_append (e ∷ es) fs (o ∷ x) y each = ap (λ (l : List (RawEvent × List RawOut)). (e, o) ∷ l) (zip_append es fs x y (omega (arith, each)))

zip_firsts : (es : List RawEvent) (x : List (List RawOut)) → length x ≡ length es → map (λ p. p.0) (zip es x) ≡ es
zip_firsts [] x each = refl
zip_firsts (e ∷ es) [] each = absurd (omega (arith, each))
zip_firsts (e ∷ es) (o ∷ x) each = ap (λ (l : List RawEvent). e ∷ l) (zip_firsts es x (omega (arith, each)))

zip_entries : (entries : List RawEntry) → zip (map (λ e. e.event) entries) (map (λ e. e.outs) entries) ≡ map event_and_frames entries
zip_entries [] = refl
zip_entries (e ∷ es) = ap (λ (l : List (RawEvent × List RawOut)). (e.event, e.outs) ∷ l) (zip_entries es)

entry_firsts : (entries : List RawEntry) → map (λ p. p.0) (map event_and_frames entries) ≡ map (λ e. e.event) entries
entry_firsts [] = refl
entry_firsts (e ∷ es) = ap (λ (l : List RawEvent). e.event ∷ l) (entry_firsts es)

all_every : (P : RawEvent → Type 0) (es : List RawEvent) → All P es → Every P es
all_every P [] h = tt
all_every P (e ∷ es) h = (All-head P e es h, all_every P es (All-tail P e es h))

every_all : (P : RawEvent → Type 0) (es : List RawEvent) → Every P es → All P es
every_all P [] h = All-nil P
every_all P (e ∷ es) h = All-cons P e es h.0 (every_all P es h.1)

-- the run up to the cut, and the run after it
handed_out_kept : (begin : State) (events : List RawEvent) (sent : List (List RawOut)) (shards : List Log) → Sound begin → Every IsOfShard events
    → HandsOut begin events sent shards
    → IsKeptInSomeOrder begin events sent (whole shards)
handed_out_kept begin events sent shards sound of h = record {
  one_each = each;
  events_then = map (λ e. e.event) entries;
  sent_then = map (λ e. e.outs) entries;
  order = subst (λ (l : List (RawEvent × List RawOut)). IsPermutation (zip events sent) l) (sym (zip_entries entries)) order;
  kept = run_is_kept begin (map (λ e. e.event) entries) (map (λ e. e.outs) entries) (whole shards) sound moved (record {
    entries = entries;
    events = refl;
    outs = refl;
    run = run_join begin (whole_base shards) (whole shards) h.to_cut.entries h.from_cut.entries h.to_cut.run h.from_cut.run;
  });
}
  where
    entries : List RawEntry
    entries = h.to_cut.entries ++ h.from_cut.entries

    each : length sent ≡ length events
    each = omega (
      arith,
      ap length h.sent_are,
      ap length h.events_are,
      length-append h.sent_before_cut
          h.sent_kept,
      length-append h.before_cut h.kept,
      h.to_cut.one_each,
      h.from_cut.one_each,
    )

    pairs : zip events sent ≡ zip h.before_cut h.sent_before_cut ++ zip h.kept h.sent_kept
    pairs = ap (λ (es : List RawEvent). zip es sent) h.events_are ∙ ap (λ (os : List (List RawOut)). zip (h.before_cut ++ h.kept) os) h.sent_are
        ∙ zip_append h.before_cut h.kept h.sent_before_cut h.sent_kept h.to_cut.one_each

    order : IsPermutation (zip events sent) (map event_and_frames entries)
    order = subst (λ (l : List (RawEvent × List RawOut)). IsPermutation l (map event_and_frames entries)) (sym pairs)
        (subst (λ (l : List (RawEvent × List RawOut)). IsPermutation (zip h.before_cut h.sent_before_cut ++ zip h.kept h.sent_kept) l)
        (sym (map-append event_and_frames h.to_cut.entries h.from_cut.entries))
        (IsPermutation-append (zip h.before_cut h.sent_before_cut) (map event_and_frames h.to_cut.entries) (zip h.kept h.sent_kept)
        (map event_and_frames h.from_cut.entries)
        h.to_cut.order h.from_cut.order))

    same_events : IsPermutation events (map (λ e. e.event) entries)
    same_events = subst (λ (l : List RawEvent). IsPermutation l (map (λ e. e.event) entries)) (zip_firsts events sent each)
        (subst (λ (l : List RawEvent). IsPermutation (map (λ p. p.0) (zip events sent)) l) (entry_firsts entries)
        (IsPermutation-map (λ p. p.0) (zip events sent) (map event_and_frames entries) order))

    moved : Every IsOfShard (map (λ e. e.event) entries)
    moved = all_every IsOfShard (map (λ e. e.event) entries) (All-permutation IsOfShard events (map (λ e. e.event) entries) same_events
        (every_all IsOfShard events of))

kept_with : (workers : ℕ) (begin : State) (batches : List BatchRun) (shards : List Log) → Sound begin → Every IsOfShard (events_in batches)
    → EndsWith workers begin batches shards
    → IsKeptWith workers begin (events_in batches) (sent_in batches) (whole shards)
kept_with zero begin batches shards sound of ends = run_is_kept begin (events_in batches) (sent_in batches) (whole shards) sound of ends.run
kept_with (suc more) begin batches shards sound of ends = handed_out_kept begin (events_in batches) (sent_in batches) shards sound of ends

pub operator_gets : OperatorGets
operator_gets options file script printed served =
    kept_with (workers_for options.workers script) _ served.ran.batches served.ran.shards served.ran.begins_sound
    (batches_of_shards [] _ served.ran.batches served.ran.are_batches) served.ran.ends
