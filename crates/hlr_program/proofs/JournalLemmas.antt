-- The journals have the last entries of a run, also when more events are handled and when they are cut. Where no entry is kept they are
-- empty, and begin in the current states.
use Rattle.std.proofs.Common.{◌≡◌, ℕ, ◌<◌, List, [], ◌∷◌, ◌++◌, map, length, length-set, set, refl, sym, ap, subst, ◌∙◌, append_assoc, arith, inl, inr}
use Rattle.std.specs.Prelude.{◌⊎◌, Option, Some, None, option_map, slice_get}
use Rattle.std.proofs.Math.Path.{fun_ext}
use Rattle.std.proofs.lemmas.Bool.{cases_eq}
use Rattle.std.proofs.lemmas.List.{append-nil, map-append}
use Rattle.std.proofs.lemmas.Option.{slice_get_within}
use Rattle.machine.specs.Keys.{put_at}
use Rattle.machine.specs.Parts.{union}
use Rattle.machine.specs.State.{State}
use Rattle.machine_laws.proofs.Transfer.{put_at_same, put_at_other}
use Rattle.frames.specs.Octets.{RawEntry, RawEvent, RawOut, RunOctets}
use Rattle.frames.specs.OctetJournals.{MergesOctets}
use Rattle.hlrcore.specs.Shards.{state_of}
use Rattle.shardlog.specs.declared.entry.Handled.{Handled}
use Rattle.shardlog.specs.declared.keep.Keep.{Keep}
use Rattle.shardlog.specs.declared.keep.Keep.TheVariants.{Entries, Nothing}
use Rattle.shardlog.specs.Handling.{Handles, recorded}
use Rattle.shardlog.specs.Log.{Log, cut_log}
use Rattle.wholenode.specs.Handling.{IsRun, Runs, Takes, sent_of}
use Rattle.wholenode.specs.Keeping.{NodeKeeps}
use Rattle.wholenode.specs.Nodes.{NodeState, base_at, bases, journal_at, journals, state_at, whole, whole_base}
use Rattle.wholenode.proofs.Places.{set_elsewhere, set_or_not, set_there}
use Rattle.wholenode.proofs.RunLemmas.{is_run}
use Rattle.hlr_program.specs.Journals.{Continues, IsAtEnd, RunsAlone}
use Rattle.hlr_program.specs.Parts.{AreCut, KeepsAs, MakesRoom}
use Rattle.workers.proofs.Runs.{run_join}
use Rattle.hlr_program.proofs.RunLemmas.{no_run, runs_join}

-- ---- one entry more

merges_more : (es : List RawEntry) (js : ℕ → List RawEntry) (n : ℕ) (e : RawEntry) → n < 16 → MergesOctets js es
    → MergesOctets (put_at js n (js n ++ e ∷ [])) (es ++ e ∷ [])
merges_more [] js n e small none =
    (n, [], small, put_at_same js n (js n ++ e ∷ []) n refl ∙ ap (λ (l : List RawEntry). l ++ e ∷ []) (none n small), all_none)
  where
    all_none : (m : ℕ) → m < 16 → put_at (put_at js n (js n ++ e ∷ [])) n [] m ≡ []
    all_none m lt = elim (cases_eq n m) [
      | inl same ↦ put_at_same (put_at js n (js n ++ e ∷ [])) n [] m same
      | inr other ↦ put_at_other (put_at js n (js n ++ e ∷ [])) n [] m other ∙ put_at_other js n (js n ++ e ∷ []) m other ∙ none m lt
    ]
merges_more (x ∷ es) js n e small (m, rest, lt, is, more) = elim (cases_eq n m) [
  | inl same ↦ (
    m,
    rest ++ e ∷ [],
    lt,
    put_at_same js n (js n ++ e ∷ []) m same ∙ ap (λ (l : List RawEntry). l ++ e ∷ []) (ap js same ∙ is),
    subst (λ (f : ℕ → List RawEntry). MergesOctets f (es ++ e ∷ [])) (fun_ext (λ k. here same k (cases_eq n k)))
        (merges_more es (put_at js m rest) n e small more),
  )
  | inr other ↦ (
    m,
    rest,
    lt,
    put_at_other js n (js n ++ e ∷ []) m other ∙ is,
    subst (λ (f : ℕ → List RawEntry). MergesOctets f (es ++ e ∷ [])) (fun_ext (λ k. elsewhere other k (cases_eq n k) (cases_eq m k)))
        (merges_more es (put_at js m rest) n e small more),
  )
]
  where
    later : ℕ → List RawEntry
    later = put_at js m rest

    here : n ≡ m → (k : ℕ) → (n ≡ k) ⊎ (n ≡ k → ⊥) → put_at (put_at js m rest) n (put_at js m rest n ++ e ∷ []) k
        ≡ put_at (put_at js n (js n ++ e ∷ [])) m (rest ++ e ∷ []) k
    here same k (inl at) =
        put_at_same (put_at js m rest) n (put_at js m rest n ++ e ∷ []) k at ∙ ap (λ (l : List RawEntry). l ++ e ∷ []) (put_at_same js m rest n (sym same))
        ∙ sym (put_at_same (put_at js n (js n ++ e ∷ [])) m (rest ++ e ∷ []) k (sym same ∙ at))
    here same k (inr ne) =
        put_at_other (put_at js m rest) n (put_at js m rest n ++ e ∷ []) k ne ∙ put_at_other js m rest k (λ mk. ne (same ∙ mk))
        ∙ sym (put_at_other (put_at js n (js n ++ e ∷ [])) m (rest ++ e ∷ []) k (λ mk. ne (same ∙ mk)) ∙ put_at_other js n (js n ++ e ∷ []) k ne)

    elsewhere : (n ≡ m → ⊥) → (k : ℕ) → (n ≡ k) ⊎ (n ≡ k → ⊥) → (m ≡ k) ⊎ (m ≡ k → ⊥)
        → put_at (put_at js m rest) n (put_at js m rest n ++ e ∷ []) k ≡ put_at (put_at js n (js n ++ e ∷ [])) m rest k
    elsewhere other k (inl at) (inl mk) = absurd (other (at ∙ sym mk))
    elsewhere other k (inl at) (inr not_m) =
        put_at_same (put_at js m rest) n (put_at js m rest n ++ e ∷ []) k at ∙ ap (λ (l : List RawEntry). l ++ e ∷ [])
        (put_at_other js m rest n (λ mn. other (sym mn)))
        ∙ sym (put_at_other (put_at js n (js n ++ e ∷ [])) m rest k not_m ∙ put_at_same js n (js n ++ e ∷ []) k at)
    elsewhere other k (inr ne) (inl mk) =
        put_at_other (put_at js m rest) n (put_at js m rest n ++ e ∷ []) k ne ∙ put_at_same js m rest k mk
        ∙ sym (put_at_same (put_at js n (js n ++ e ∷ [])) m rest k mk)
    elsewhere other k (inr ne) (inr not_m) =
        put_at_other (put_at js m rest) n (put_at js m rest n ++ e ∷ []) k ne ∙ put_at_other js m rest k not_m
        ∙ sym (put_at_other (put_at js n (js n ++ e ∷ [])) m rest k not_m ∙ put_at_other js n (js n ++ e ∷ []) k ne)

-- ---- one shard takes an event

recorded_keep : (keep : Keep) (l m : Log) (e : RawEntry) → m ≡ recorded keep l e m.state → m.keep ≡ keep
recorded_keep Entries l m e is = ap (λ (k : Log). k.keep) is
recorded_keep Nothing l m e is = ap (λ (k : Log). k.keep) is

-- where entries are kept, the journal has one more
pub entry_added : (old new : Log) (raw : RawEvent) (handled : Handled) → old.keep ≡ Entries → (h : Handles old raw handled new)
    → new ≡ recorded Entries old h.entry new.state
entry_added old new raw handled listed h = h.new_is ∙ ap (λ (k : Keep). recorded k old h.entry new.state) listed

pub takes_keep : (keep : Keep) (before : NodeState) (raw : RawEvent) (handled : Handled) (after : NodeState) → Takes before raw handled after
    → KeepsAs keep before → KeepsAs keep after
takes_keep keep before raw handled after t keeps = λ n l at.
    elim (set_or_not before.shards t.place n t.next l (sym (ap (λ (m : NodeState). slice_get m.shards n) t.changed) ∙ at)) [
      | inl h ↦ ap (λ (m : Log). m.keep) (sym h.1) ∙ recorded_keep t.shard.keep t.shard t.next t.handles.entry t.handles.new_is
          ∙ keeps t.place t.shard t.is_for.stands
      | inr h ↦ keeps n l h
    ]

bases_set : (shards : List Log) (i : ℕ) (l m : Log) → slice_get shards i ≡ Some l → m.base ≡ l.base → bases (set shards i m) ≡ bases shards
bases_set shards i l m at same = fun_ext (λ n. each n (cases_eq i n))
  where
    each : (n : ℕ) → (i ≡ n) ⊎ (i ≡ n → ⊥) → bases (set shards i m) n ≡ bases shards n
    each n (inl e) =
        ap (bases (set shards i m)) (sym e) ∙ ap base_at (set_there shards i m (slice_get_within shards i l at)) ∙ ap (λ s. state_of s) same
        ∙ sym (ap base_at at) ∙ ap (bases shards) e
    each n (inr ne) = ap base_at (set_elsewhere shards i n m ne)

journals_set : (shards : List Log) (i : ℕ) (l m : Log) (e : RawEntry) → slice_get shards i ≡ Some l → m.entries ≡ l.entries ++ e ∷ []
    → put_at (journals shards) i (journals shards i ++ e ∷ []) ≡ journals (set shards i m)
journals_set shards i l m e at added = fun_ext (λ n. each n (cases_eq i n))
  where
    each : (n : ℕ) → (i ≡ n) ⊎ (i ≡ n → ⊥) → put_at (journals shards) i (journals shards i ++ e ∷ []) n ≡ journals (set shards i m) n
    each n (inl is) =
        put_at_same (journals shards) i (journals shards i ++ e ∷ []) n is ∙ ap (λ (es : List RawEntry). es ++ e ∷ []) (ap journal_at at) ∙ sym added
        ∙ sym (ap journal_at (set_there shards i m (slice_get_within shards i l at))) ∙ ap (journals (set shards i m)) is
    each n (inr ne) = put_at_other (journals shards) i (journals shards i ++ e ∷ []) n ne ∙ sym (ap journal_at (set_elsewhere shards i n m ne))

takes_at_end : (begin : State) (events : List RawEvent) (sent : List (List RawOut)) (before : NodeState) (raw : RawEvent) (handled : Handled)
    (after : NodeState)
    → length before.shards ≡ 16 → KeepsAs Entries before → Takes before raw handled after → IsAtEnd begin events sent before
    → IsAtEnd begin (events ++ raw ∷ []) (sent ++ sent_of handled ∷ []) after
takes_at_end begin events sent before raw handled after sixteen keeps t h = record {
  before_cut = h.before_cut;
  sent_before_cut = h.sent_before_cut;
  kept = h.kept ++ raw ∷ [];
  sent_kept = h.sent_kept ++ sent_of handled ∷ [];
  events_are = ap (λ (l : List RawEvent). l ++ raw ∷ []) h.events_are ∙ append_assoc h.before_cut h.kept (raw ∷ []);
  sent_are = ap (λ (l : List (List RawOut)). l ++ sent_of handled ∷ []) h.sent_are ∙ append_assoc h.sent_before_cut h.sent_kept (sent_of handled ∷ []);
  to_cut = subst (λ (S : State). IsRun begin h.before_cut h.sent_before_cut S) (sym base) h.to_cut;
  from_cut = record {
    entries = h.from_cut.entries ++ entry ∷ [];
    events = map-append (λ e. e.event) h.from_cut.entries (entry ∷ []) ∙ ap (λ (l : List RawEvent). l ++ entry.event ∷ []) h.from_cut.events
        ∙ ap (λ (e : RawEvent). h.kept ++ e ∷ []) t.handles.event_is;
    outs = map-append (λ e. e.outs) h.from_cut.entries (entry ∷ []) ∙ ap (λ (l : List (List RawOut)). l ++ entry.outs ∷ []) h.from_cut.outs
        ∙ ap (λ (o : List RawOut). h.sent_kept ++ o ∷ []) (sym t.handles.outs_are);
    run = subst (λ (S : State). RunOctets S (h.from_cut.entries ++ entry ∷ []) (whole after.shards)) (sym base)
        (run_join (whole_base before.shards) (whole before.shards) (whole after.shards) h.from_cut.entries (entry ∷ []) h.from_cut.run
        (whole after.shards, t.step, refl));
  };
  merges = subst (λ (f : ℕ → List RawEntry). MergesOctets f (h.from_cut.entries ++ entry ∷ [])) grown
      (merges_more h.from_cut.entries (journals before.shards) t.place entry small h.merges);
}
  where
    entry : RawEntry
    entry = t.handles.entry

    added : t.next ≡ recorded Entries t.shard entry t.next.state
    added = entry_added t.shard t.next raw handled (keeps t.place t.shard t.is_for.stands) t.handles

    small : t.place < 16
    small = omega (arith, sixteen, slice_get_within before.shards t.place t.shard t.is_for.stands)

    base : whole_base after.shards ≡ whole_base before.shards
    base = ap (λ (n : NodeState). whole_base n.shards) t.changed ∙ ap union
        (bases_set before.shards t.place t.shard t.next t.is_for.stands (ap (λ (l : Log). l.base) added))

    grown : put_at (journals before.shards) t.place (journals before.shards t.place ++ entry ∷ []) ≡ journals after.shards
    grown = journals_set before.shards t.place t.shard t.next entry t.is_for.stands (ap (λ (l : Log). l.entries) added) ∙ sym (ap (λ (n : NodeState). journals n.shards) t.changed)

same_count : (before : NodeState) (raw : RawEvent) (handled : Handled) (after : NodeState) → length before.shards ≡ 16 → Takes before raw handled after
    → length after.shards ≡ 16
same_count before raw handled after sixteen t = ap (λ (n : NodeState). length n.shards) t.changed ∙ length-set before.shards t.place t.next ∙ sixteen

-- ---- events are handled

runs_at_end : (begin : State) (events : List RawEvent) (sent : List (List RawOut)) (before : NodeState) (raws : List RawEvent) (done : List Handled)
    (after : NodeState)
    → length before.shards ≡ 16 → KeepsAs Entries before → Runs before raws done after → IsAtEnd begin events sent before
    → IsAtEnd begin (events ++ raws) (sent ++ map sent_of done) after
runs_at_end begin events sent before [] [] after sixteen keeps runs h =
    subst (λ (n : NodeState). IsAtEnd begin (events ++ []) (sent ++ []) n) (sym runs)
    (subst (λ (es : List RawEvent). IsAtEnd begin es (sent ++ []) before) (sym (append-nil events))
    (subst (λ (os : List (List RawOut)). IsAtEnd begin events os before) (sym (append-nil sent)) h))
runs_at_end begin events sent before [] (d ∷ ds) after sixteen keeps runs h = absurd runs
runs_at_end begin events sent before (r ∷ rs) [] after sixteen keeps runs h = absurd runs
runs_at_end begin events sent before (r ∷ rs) (d ∷ ds) after sixteen keeps (between, first, more) h =
    subst (λ (es : List RawEvent). IsAtEnd begin es (sent ++ sent_of d ∷ map sent_of ds) after) (append_assoc events (r ∷ []) rs)
    (subst (λ (os : List (List RawOut)). IsAtEnd begin ((events ++ r ∷ []) ++ rs) os after) (append_assoc sent (sent_of d ∷ []) (map sent_of ds))
    (runs_at_end begin (events ++ r ∷ []) (sent ++ sent_of d ∷ []) between rs ds after (same_count before r d between sixteen first)
    (takes_keep Entries before r d between first keeps) more (takes_at_end begin events sent before r d between sixteen keeps first h)))

-- ---- the journals are cut

state_cut : (o : Option Log) → state_at (option_map cut_log o) ≡ state_at o
state_cut None = refl
state_cut (Some l) = refl

base_cut : (o : Option Log) → base_at (option_map cut_log o) ≡ state_at o
base_cut None = refl
base_cut (Some l) = refl

journal_cut : (o : Option Log) → journal_at (option_map cut_log o) ≡ []
journal_cut None = refl
journal_cut (Some l) = refl

-- a cut changes no state
pub cut_whole : (before after : NodeState) → AreCut before after → whole after.shards ≡ whole before.shards
cut_whole before after cut = ap union (fun_ext (λ n. ap state_at (cut.each n) ∙ state_cut (slice_get before.shards n)))

cut_base : (before after : NodeState) → AreCut before after → whole_base after.shards ≡ whole before.shards
cut_base before after cut = ap union (fun_ext (λ n. ap base_at (cut.each n) ∙ base_cut (slice_get before.shards n)))

-- the run up to the register's state
pub run_to_end : (begin : State) (events : List RawEvent) (sent : List (List RawOut)) (node : NodeState) → IsAtEnd begin events sent node
    → IsRun begin events sent (whole node.shards)
run_to_end begin events sent node h =
    subst (λ (es : List RawEvent). IsRun begin es sent (whole node.shards)) (sym h.events_are)
    (subst (λ (os : List (List RawOut)). IsRun begin (h.before_cut ++ h.kept) os (whole node.shards)) (sym h.sent_are)
    (runs_join begin (whole_base node.shards) (whole node.shards) h.before_cut h.kept h.sent_before_cut h.sent_kept h.to_cut h.from_cut))

-- empty journals, which begin in the current states of the shards
fresh_at_end : (begin : State) (events : List RawEvent) (sent : List (List RawOut)) (node : NodeState) → whole_base node.shards ≡ whole node.shards
    → ((n : ℕ) → journals node.shards n ≡ [])
    → IsRun begin events sent (whole node.shards) → IsAtEnd begin events sent node
fresh_at_end begin events sent node same none run = record {
  before_cut = events;
  sent_before_cut = sent;
  kept = [];
  sent_kept = [];
  events_are = sym (append-nil events);
  sent_are = sym (append-nil sent);
  to_cut = subst (λ (S : State). IsRun begin events sent S) (sym same) run;
  from_cut = record { entries = []; events = refl; outs = refl; run = sym same };
  merges = λ n lt. none n;
}

cut_at_end : (begin : State) (events : List RawEvent) (sent : List (List RawOut)) (before after : NodeState) → AreCut before after
    → IsAtEnd begin events sent before
    → IsAtEnd begin events sent after
cut_at_end begin events sent before after cut h =
    fresh_at_end begin events sent after (cut_base before after cut ∙ sym (cut_whole before after cut))
    (λ n. ap journal_at (cut.each n) ∙ journal_cut (slice_get before.shards n))
    (subst (λ (S : State). IsRun begin events sent S) (sym (cut_whole before after cut)) (run_to_end begin events sent before h))

pub made_whole : (before ready : NodeState) (count : ℕ) → MakesRoom before count ready → whole ready.shards ≡ whole before.shards
made_whole before ready count (inl (room, same)) = ap (λ (n : NodeState). whole n.shards) same
made_whole before ready count (inr (none, cut)) = cut_whole before ready cut

pub made_at_end : (begin : State) (events : List RawEvent) (sent : List (List RawOut)) (before ready : NodeState) (count : ℕ) → MakesRoom before count ready
    → IsAtEnd begin events sent before
    → IsAtEnd begin events sent ready
made_at_end begin events sent before ready count (inl (room, same)) h = subst (λ (n : NodeState). IsAtEnd begin events sent n) (sym same) h
made_at_end begin events sent before ready count (inr (none, cut)) h = cut_at_end begin events sent before ready cut h

-- ---- continuing

pub continues_none : (node : NodeState) → Continues node [] [] node
continues_none node = λ begin events sent h.
    subst (λ (es : List RawEvent). IsAtEnd begin es (sent ++ []) node) (sym (append-nil events))
    (subst (λ (os : List (List RawOut)). IsAtEnd begin events os node) (sym (append-nil sent)) h)

pub continues_join : (a b c : NodeState) (r s : List RawEvent) (x y : List (List RawOut)) → Continues a r x b → Continues b s y c
    → Continues a (r ++ s) (x ++ y) c
continues_join a b c r s x y h k = λ begin events sent at.
    subst (λ (es : List RawEvent). IsAtEnd begin es (sent ++ (x ++ y)) c) (append_assoc events r s)
    (subst (λ (os : List (List RawOut)). IsAtEnd begin ((events ++ r) ++ s) os c) (append_assoc sent x y)
    (k begin (events ++ r) (sent ++ x) (h begin events sent at)))

-- ---- empty journals, which begin in the current states of the shards

pub empty_at_end : (begin : State) (events : List RawEvent) (sent : List (List RawOut)) (node : NodeState)
    → ((n : ℕ) (l : Log) → slice_get node.shards n ≡ Some l → (l.base ≡ l.state) × (l.entries ≡ []))
    → IsRun begin events sent (whole node.shards) → IsAtEnd begin events sent node
empty_at_end begin events sent node fresh run =
    fresh_at_end begin events sent node (ap union (fun_ext (λ n. base (slice_get node.shards n) (λ l e. (fresh n l e).0))))
    (λ n. none (slice_get node.shards n) (λ l e. (fresh n l e).1)) run
  where
    base : (o : Option Log) → ((l : Log) → o ≡ Some l → l.base ≡ l.state) → base_at o ≡ state_at o
    base None h = refl
    base (Some l) h = ap (λ s. state_of s) (h l refl)

    none : (o : Option Log) → ((l : Log) → o ≡ Some l → l.entries ≡ []) → journal_at o ≡ []
    none None h = refl
    none (Some l) h = h l refl

pub opening_at_end : (begin : State) (node : NodeState) → ((n : ℕ) (l : Log) → slice_get node.shards n ≡ Some l → (l.base ≡ l.state) × (l.entries ≡ []))
    → whole node.shards ≡ begin
    → IsAtEnd begin [] [] node
opening_at_end begin node fresh is = empty_at_end begin [] [] node fresh (subst (λ (S : State). IsRun begin [] [] S) (sym is) (no_run begin))

-- ---- events that are handled one after another, whether entries are kept or not

-- where none is kept
unlisted_at_end : (begin : State) (events : List RawEvent) (sent : List (List RawOut)) (node : NodeState) → NodeKeeps node → KeepsAs Nothing node
    → IsRun begin events sent (whole node.shards) → IsAtEnd begin events sent node
unlisted_at_end begin events sent node sound keeps =
    empty_at_end begin events sent node (λ n l at. let none : l ≡ cut_log l = (sound.shards.each n l at).keeps.none (keeps n l at) in
    (ap (λ (m : Log). m.base) none, ap (λ (m : Log). m.entries) none))

pub runs_keep : (keep : Keep) (before : NodeState) (raws : List RawEvent) (done : List Handled) (after : NodeState) → Runs before raws done after
    → KeepsAs keep before → KeepsAs keep after
runs_keep keep before [] [] after runs keeps = subst (KeepsAs keep) (sym runs) keeps
runs_keep keep before [] (d ∷ ds) after runs keeps = absurd runs
runs_keep keep before (r ∷ rs) [] after runs keeps = absurd runs
runs_keep keep before (r ∷ rs) (d ∷ ds) after (between, first, more) keeps =
    runs_keep keep between rs ds after more (takes_keep keep before r d between first keeps)

runs_continue : (keep : Keep) (before : NodeState) (raws : List RawEvent) (done : List Handled) (after : NodeState) → NodeKeeps before
    → KeepsAs keep before → NodeKeeps after → Runs before raws done after → Continues before raws (map sent_of done) after
runs_continue Entries before raws done after sound keeps sound_after runs =
    λ begin events sent h. runs_at_end begin events sent before raws done after sound.shards.count keeps runs h
runs_continue Nothing before raws done after sound keeps sound_after runs =
    λ begin events sent h. unlisted_at_end begin (events ++ raws) (sent ++ map sent_of done) after sound_after
    (runs_keep Nothing before raws done after runs keeps)
    (runs_join begin (whole before.shards) (whole after.shards) events raws sent (map sent_of done) (run_to_end begin events sent before h)
    (is_run before after raws done runs))

pub runs_alone : (keep : Keep) (before : NodeState) (raws : List RawEvent) (done : List Handled) (after : NodeState) → NodeKeeps before
    → KeepsAs keep before → NodeKeeps after → Runs before raws done after → RunsAlone before raws (map sent_of done) after
runs_alone keep before raws done after sound keeps sound_after runs =
    (is_run before after raws done runs, runs_continue keep before raws done after sound keeps sound_after runs)

pub alone_join : (a b c : NodeState) (r s : List RawEvent) (x y : List (List RawOut)) → RunsAlone a r x b → RunsAlone b s y c
    → RunsAlone a (r ++ s) (x ++ y) c
alone_join a b c r s x y h k =
    (runs_join (whole a.shards) (whole b.shards) (whole c.shards) r s x y h.0 k.0, continues_join a b c r s x y h.1 k.1)
