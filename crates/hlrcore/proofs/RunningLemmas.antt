-- Events of a shard that are handled one after another.
use Rattle.std.proofs.Common.{◌≡◌, ℕ, suc, ◌+◌, ◌<◌, List, [], ◌∷◌, ◌++◌, map, length, take, drop, get_or, refl, sym, ap, subst, ◌∙◌, arith, inl, inr}
use Rattle.std.specs.Prelude.{◌≢◌, ◌↔◌, Result, Err}
use Rattle.std.proofs.lemmas.Bool.{cases_eq}
use Rattle.std.proofs.lemmas.List.{map-append, take_more}
use Rattle.std.proofs.lemmas.List.Elements.{All-append, All-cons, All-nil}
use Rattle.std.proofs.Math.Seq.{split_at, take-length}
use Rattle.machine.specs.Routing.{route}
use Rattle.machine.specs.State.{State}
use Rattle.machine.specs.Step.{HasNoRoom}
use Rattle.frames.specs.Octets.{RawEvent, RunOctets, StepOctets}
use Rattle.hlrcore.specs.declared.answer.StepAnswer.{StepAnswer}
use Rattle.hlrcore.specs.Answers.{entry_of}
use Rattle.hlrcore.specs.Shards.{IsSameShard, ShardState, directory_of, state_of}
use Rattle.hlrcore.specs.declared.fault.StepFault.{StepFault}
use Rattle.hlrcore.specs.declared.fault.StepFault.TheVariants.{NotMine, NoRoom, Memory}
use Rattle.hlrcore.specs.declared.event.Event.{Event}
use Rattle.hlrcore.specs.Events.{event_of, raw_of}
use Rattle.hlrcore.specs.Ids.{MovesIds}
use Rattle.hlrcore.specs.Leading.{Leads}
use Rattle.hlrcore.specs.Replaying.{Runs}
use Rattle.hlrcore.specs.Running.{BreaksOff, IsForShard, RefusedFor, RunsTo, entries_of}

-- ---- one shard

pub same_shard : (s : ShardState) → IsSameShard s s
same_shard s = record { shard = refl; directory = refl; hlr = refl }

pub same_shard_after : (s t u : ShardState) → IsSameShard s t → IsSameShard t u → IsSameShard s u
same_shard_after s t u h k = record {
  shard = k.shard ∙ h.shard;
  directory = k.directory ∙ h.directory;
  hlr = k.hlr ∙ h.hlr;
}

-- an event that is not refused with `NotMine` is for this shard
is_own : (s : ShardState) (event : Event) (answer : Result StepAnswer StepFault)
    → ((answer ≡ Err NotMine) ↔ (route (directory_of s.directory) (event_of event) ≢ s.shard)) → (answer ≡ Err NotMine → ⊥)
    → IsForShard s event
is_own s event answer exact other = elim (cases_eq (route (directory_of s.directory) (event_of event)) s.shard) [
  | inl own ↦ own
  | inr foreign ↦ absurd (other (exact.1 foreign))
]

own_before : (s t : ShardState) (event : Event) → IsSameShard s t → IsForShard t event → IsForShard s event
own_before s t event same own =
    ap (λ d. route (directory_of d) (event_of event)) (sym same.directory) ∙ own ∙ same.shard

-- ---- one event more

entries_more : (raws : List RawEvent) (answers : List StepAnswer) (raw : RawEvent) (a : StepAnswer) (S M T : State)
    → length answers ≡ length raws → RunOctets S (entries_of raws answers) M → StepOctets M (entry_of raw a) T
    → RunOctets S (entries_of (raws ++ raw ∷ []) (answers ++ a ∷ [])) T
entries_more [] [] raw a S M T count run step = (T, subst (λ (X : State). StepOctets X (entry_of raw a) T) run step, refl)
entries_more [] (b ∷ bs) raw a S M T count run step = absurd (omega (arith, count))
entries_more (r ∷ rs) [] raw a S M T count run step = absurd (omega (arith, count))
entries_more (r ∷ rs) (b ∷ bs) raw a S M T count (N, first, rest) step =
    (N, first, entries_more rs bs raw a N M T (omega (arith, count)) rest step)

counts : (s t : ShardState) (raws : List RawEvent) (answers : List StepAnswer) → Runs s raws answers t → length answers ≡ length raws
counts s t [] [] run = refl
counts s t [] (a ∷ answers) run = absurd run
counts s t (raw ∷ raws) [] run = absurd run
counts s t (raw ∷ raws) (a ∷ answers) (m, leads, moves, rest) = ap suc (counts m t raws answers rest)

runs_more : (s m t : ShardState) (raws : List RawEvent) (answers : List StepAnswer) (raw : RawEvent) (a : StepAnswer)
    → Runs s raws answers m → Leads m raw a t → MovesIds m.dialogues a.id t.dialogues → Runs s (raws ++ raw ∷ []) (answers ++ a ∷ []) t
runs_more s m t [] [] raw a run leads moves =
    subst (λ (x : ShardState). Runs x (raw ∷ []) (a ∷ []) t) run (t, leads, moves, refl)
runs_more s m t [] (b ∷ bs) raw a run leads moves = absurd run
runs_more s m t (r ∷ rs) [] raw a run leads moves = absurd run
runs_more s m t (r ∷ rs) (b ∷ bs) raw a (n, first, move, rest) leads moves = (n, first, move, runs_more n m t rs bs raw a rest leads moves)

event_more : (s m t : ShardState) (before : List Event) (event : Event) (done : List StepAnswer) (a : StepAnswer)
    → RunsTo s before done m → IsForShard s event → Leads m (raw_of event) a t → MovesIds m.dialogues a.id t.dialogues
    → RunsTo s (before ++ event ∷ []) (done ++ a ∷ []) t
event_more s m t before event done a so_far own step moves =
    let counted : length done ≡ length (map raw_of before) = counts s m (map raw_of before) done so_far.runs in
    record {
      own = All-append (IsForShard s) before (event ∷ []) so_far.own (All-cons (IsForShard s) event [] own (All-nil (IsForShard s)));
      runs = subst (λ (raws : List RawEvent). Runs s raws (done ++ a ∷ []) t) (sym (map-append raw_of before (event ∷ [])))
          (runs_more s m t (map raw_of before) done (raw_of event) a so_far.runs step moves);
      run = subst (λ (raws : List RawEvent). RunOctets (state_of s) (entries_of raws (done ++ a ∷ [])) (state_of t))
          (sym (map-append raw_of before (event ∷ [])))
          (entries_more (map raw_of before) done (raw_of event) a (state_of s) (state_of m) (state_of t) counted so_far.run step);
    }

pub no_event : (s : ShardState) (answers : List StepAnswer) → answers ≡ [] → RunsTo s [] answers s
no_event s answers none =
    subst (λ (none_yet : List StepAnswer). RunsTo s [] none_yet s) (sym none) (record { own = All-nil (IsForShard s); runs = refl; run = refl })

-- ---- up to a place of a list

-- the event at this index is handled
pub one_more : (s m t : ShardState) (events : List Event) (i : ℕ) (event : Event) (done : List StepAnswer) (a : StepAnswer)
    (answer : Result StepAnswer StepFault) → i < length events → event ≡ get_or events i event → IsSameShard s m
    → RunsTo s (take i events) done m → Leads m (raw_of event) a t → MovesIds m.dialogues a.id t.dialogues
    → ((answer ≡ Err NotMine) ↔ (route (directory_of m.directory) (event_of event) ≢ m.shard)) → (answer ≡ Err NotMine → ⊥)
    → RunsTo s (take (i + 1) events) (done ++ a ∷ []) t
one_more s m t events i event done a answer lt is same so_far step moves exact other =
    subst (λ (es : List Event). RunsTo s es (done ++ a ∷ []) t)
    (sym (take_more events i event lt ∙ ap (λ (e : Event). take i events ++ e ∷ []) (sym is)))
    (event_more s m t (take i events) event done a so_far (own_before s m event same (is_own m event answer exact other)) step moves)

-- all are
pub all_taken : (s t : ShardState) (events : List Event) (i : ℕ) (done : List StepAnswer) → i ≡ length events
    → RunsTo s (take i events) done t → RunsTo s events done t
all_taken s t events i done all so_far =
    subst (λ (es : List Event). RunsTo s es done t) (ap (λ (n : ℕ). take n events) all ∙ take-length events) so_far

-- the event at this index is refused
pub breaks_off : (s t : ShardState) (events : List Event) (i : ℕ) (event : Event) (done : List StepAnswer) (fault : StepFault)
    → i < length events → event ≡ get_or events i event → RunsTo s (take i events) done t → RefusedFor t event fault
    → BreaksOff s events done fault t
breaks_off s t events i event done fault lt is so_far refused = record {
  before = take i events;
  next = event;
  rest = drop (suc i) events;
  events_are = split_at events i event lt ∙ ap (λ (e : Event). take i events ++ e ∷ drop (suc i) events) (sym is);
  runs = so_far;
  refused = refused;
}

-- and why
pub refused : (s : ShardState) (event : Event) (answer : Result StepAnswer StepFault) (fault : StepFault) → answer ≡ Err fault
    → ((answer ≡ Err NotMine) ↔ (route (directory_of s.directory) (event_of event) ≢ s.shard))
    → (answer ≡ Err NoRoom → HasNoRoom (state_of s) (event_of event)) → RefusedFor s event fault
refused s event answer NotMine is exact no_room = exact.0 is
refused s event answer NoRoom is exact no_room = (is_own s event answer exact (λ e. cc), no_room is)
refused s event answer Memory is exact no_room = tt
