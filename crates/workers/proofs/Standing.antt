-- What a shared register has handled, when its journals are cut, when jobs are added, and at the end.
use Rattle.std.proofs.Common.{◌≡◌, ℕ, ◌+◌, ◌<◌, ◌≤◌, List, [], ◌∷◌, ◌++◌, length, map, take, drop, set, get_or, append_assoc, add-one, arith, sym, refl, ap, ap₂, ◌∙◌, subst}
use Rattle.std.specs.Prelude.{All, Option, Some, None, option_map, slice_get}
use Rattle.std.proofs.Math.Path.{fun_ext}
use Rattle.std.proofs.Math.Seq.{drop-cons}
use Rattle.std.proofs.lemmas.List.{append-nil, drop-set-lt, drop_all, length-map, map-append, take_all, take_more_set}
use Rattle.std.proofs.lemmas.List.Elements.{All-push}
use Rattle.std.proofs.lemmas.Option.{get_or_from_slice_get, slice_get-map, slice_get_within}
use Rattle.machine.specs.Opening.{opening}
use Rattle.machine.specs.Parts.{union}
use Rattle.machine.specs.State.{State}
use Rattle.frames.specs.Account.{Job, Receipt}
use Rattle.frames.specs.Octets.{RawEvent, RawOut}
use Rattle.records.specs.Loaded.{Subscribers}
use Rattle.records.specs.Maps.{DirectoryMap}
use Rattle.hlrcore.specs.Shards.{ShardState, directory_of, records_of, state_of}
use Rattle.shardlog.specs.declared.keep.Keep.TheVariants.{Entries}
use Rattle.shardlog.specs.Log.{Log, LogKeeps, cut_log}
use Rattle.wholenode.specs.Keeping.{AreShards, IsStateAt, NodeKeeps}
use Rattle.wholenode.specs.Nodes.{NodeState, base_at, bases, state_at, whole, whole_base}
use Rattle.wholenode.specs.Opening.{BeginsWith}
use Rattle.workers.specs.Going.{bases_of}
use Rattle.workers.specs.Shared.{AreLast, AreSettled, GoesOn, HandsOut, IsRunInSomeOrder, SharedState, StandsBehind, events_of_jobs, jobs_of_receipts, numbers_of_jobs, sent_at, sent_for, shared_state, state_or_nothing, whole_of}
use Rattle.wholenode.proofs.BaseLemmas.{bases_of_shards, log_base}
use Rattle.workers.proofs.Orders.{joined, no_run, run_of_jobs}

-- ---- what bases and states are together

abbrev state_in : Log → ShardState
state_in l = l.state

base_in : (o : Option Log) → state_or_nothing (option_map log_base o) ≡ base_at o
base_in None = refl
base_in (Some l) = refl

state_there : (o : Option Log) → state_or_nothing (option_map state_in o) ≡ state_at o
state_there None = refl
state_there (Some l) = refl

whole_of_bases : (shards : List Log) → whole_of (bases_of shards) ≡ whole_base shards
whole_of_bases shards = ap union (fun_ext (λ n. ap state_or_nothing (slice_get-map log_base shards n) ∙ base_in (slice_get shards n)))

whole_of_states : (shards : List Log) → whole_of (map state_in shards) ≡ whole shards
whole_of_states shards = ap union (fun_ext (λ n. ap state_or_nothing (slice_get-map state_in shards n) ∙ state_there (slice_get shards n)))

-- ---- the register opens

same_at : (o : Option Log) → ((l : Log) → o ≡ Some l → l.base ≡ l.state) → base_at o ≡ state_at o
same_at None same = refl
same_at (Some l) same = ap (λ (s : ShardState). state_of s) (same l refl)

whole_opening : (loaded : Subscribers) (node : NodeState) → BeginsWith loaded Entries 0 node
    → whole_of (bases_of node.shards) ≡ opening (records_of loaded.records) (directory_of loaded.directory) loaded.hlr
whole_opening loaded node begins =
    let at : (n : ℕ) (l : Log) → slice_get node.shards n ≡ Some l → l.base ≡ l.state = λ n l e.
    let first = (begins.shards_are.each n l e).begins in ap log_base first ∙ sym (ap state_in first) in
    whole_of_bases node.shards ∙ ap union (fun_ext (λ n. same_at (slice_get node.shards n) (at n))) ∙ begins.whole_is

pub stands_at_first : (loaded : Subscribers) (node : NodeState) → BeginsWith loaded Entries 0 node → NodeKeeps node
    → StandsBehind (opening (records_of loaded.records) (directory_of loaded.directory) loaded.hlr) [] [] (shared_state (bases_of node.shards) [] [])
stands_at_first loaded node begins keeps = record {
  directory = node.directory;
  are_bases = bases_of_shards node.directory node.shards keeps.shards;
  before_cut = [];
  sent_before_cut = [];
  events_are = refl;
  sent_are = refl;
  pairs = refl;
  to_cut = no_run (opening (records_of loaded.records) (directory_of loaded.directory) loaded.hlr) (whole_of (bases_of node.shards))
      (whole_opening loaded node begins);
}

-- ---- jobs are added

pub goes_on_by : (before : SharedState) (jobs : List Job) (receipts : List Receipt) (after : SharedState) → jobs_of_receipts receipts ≡ numbers_of_jobs jobs
    → after ≡ shared_state before.bases (before.jobs ++ jobs) (before.receipts ++ receipts) → GoesOn before (events_of_jobs jobs) (sent_for receipts) after
goes_on_by before jobs receipts after pairs is = (
  length-map receipts (λ (r : Receipt). sent_at r.place) ∙ sym (length-map receipts (λ (r : Receipt). r.job)) ∙ ap length pairs
      ∙ length-map jobs (λ (j : Job). j.number)
      ∙ sym (length-map jobs (λ (j : Job). j.event)),
  λ begin earlier sent_earlier h. subst (StandsBehind begin (earlier ++ events_of_jobs jobs) (sent_earlier ++ sent_for receipts)) (sym is) (record {
    directory = h.directory;
    are_bases = h.are_bases;
    before_cut = h.before_cut;
    sent_before_cut = h.sent_before_cut;
    events_are = ap (λ (l : List RawEvent). l ++ events_of_jobs jobs) h.events_are
        ∙ append_assoc h.before_cut (events_of_jobs before.jobs) (events_of_jobs jobs)
        ∙ ap (λ (l : List RawEvent). h.before_cut ++ l) (sym (map-append (λ (j : Job). j.event) before.jobs jobs));
    sent_are = ap (λ (l : List (List RawOut)). l ++ sent_for receipts) h.sent_are
        ∙ append_assoc h.sent_before_cut (sent_for before.receipts) (sent_for receipts)
        ∙ ap (λ (l : List (List RawOut)). h.sent_before_cut ++ l) (sym (map-append (λ (r : Receipt). sent_at r.place) before.receipts receipts));
    pairs = map-append (λ (r : Receipt). r.job) before.receipts receipts ∙ ap₂ ◌++◌ h.pairs pairs ∙ sym (map-append (λ (j : Job). j.number) before.jobs jobs);
    to_cut = h.to_cut;
  }),
)

-- ---- jobs and receipts account for the journals

-- All events up to here are such a run to the states of the shards.
settled_run : (begin : State) (events : List RawEvent) (sent : List (List RawOut)) (s : SharedState) (shards : List Log) → StandsBehind begin events sent s
    → AreSettled s.bases s.jobs s.receipts shards
    → HandsOut begin events sent shards
settled_run begin events sent s shards h settled =
    let are = settled.one_register h.directory h.are_bases in
    let kept = run_of_jobs h.directory shards s.jobs s.receipts are settled.account h.pairs in
    record {
      directory = h.directory;
      are_shards = are;
      before_cut = h.before_cut;
      sent_before_cut = h.sent_before_cut;
      kept = events_of_jobs s.jobs;
      sent_kept = sent_for s.receipts;
      events_are = h.events_are;
      sent_are = h.sent_are;
      to_cut = subst (IsRunInSomeOrder begin h.before_cut h.sent_before_cut) (sym (ap whole_of settled.same) ∙ whole_of_bases shards) h.to_cut;
      from_cut = kept.0;
      merges = kept.1;
    }

pub hands_out : (s : SharedState) (shards : List Log) → AreSettled s.bases s.jobs s.receipts shards
    → (begin : State) (events : List RawEvent) (sent : List (List RawOut)) → StandsBehind begin events sent s → HandsOut begin events sent shards
hands_out s shards settled begin events sent h = settled_run begin events sent s shards h settled

-- ---- the journals are cut

-- the element of a mapped list is mapped
mapped : (f : Log → Log) (xs : List Log) (n : ℕ) (y : Log) → slice_get (map f xs) n ≡ Some y → (x : Log) × (slice_get xs n ≡ Some x) × (f x ≡ y)
mapped f xs n y e = from (slice_get xs n) (sym (slice_get-map f xs n) ∙ e) refl
  where
    from : (o : Option Log) → option_map f o ≡ Some y → slice_get xs n ≡ o → (x : Log) × (slice_get xs n ≡ Some x) × (f x ≡ y)
    from None is at = absurd (cc is)
    from (Some x) is at = (x, at, cc)

pub cut_shards : (directory : DirectoryMap) (shards : List Log) → AreShards directory shards → All LogKeeps (map cut_log shards)
    → AreShards directory (map cut_log shards)
cut_shards directory shards are keeps = record {
  hlr = are.hlr;
  count = length-map shards cut_log ∙ are.count;
  each = λ n l e.
      let found = mapped cut_log shards n l e in
      let was = are.each n found.0 found.1 in
      let same : l.state ≡ found.0.state = sym (ap state_in found.2) in
      record {
        keeps = subst LogKeeps (get_or_from_slice_get (map cut_log shards) n l l e) (keeps n l (slice_get_within (map cut_log shards) n l e));
        state_is = subst (IsStateAt n directory are.hlr) (sym same) was.state_is;
      };
}

cut_bases : (shards : List Log) → bases_of (map cut_log shards) ≡ map state_in shards
cut_bases [] = refl
cut_bases (l ∷ shards) = ap (λ (s : List ShardState). l.state ∷ s) (cut_bases shards)

pub cut_stands : (before after : SharedState) (shards cut : List Log) → AreSettled before.bases before.jobs before.receipts shards → cut ≡ map cut_log shards
    → All LogKeeps cut
    → after ≡ shared_state (bases_of cut) [] [] → GoesOn before [] [] after
cut_stands before after shards cut settled is keeps now = (
  refl,
  λ begin events sent h.
      let out = settled_run begin events sent before shards h settled in
      let bases_now : bases_of cut ≡ map state_in shards = ap bases_of is ∙ cut_bases shards in
      let run : IsRunInSomeOrder begin events sent (whole shards) =
      subst (λ (p : List RawEvent × List (List RawOut)). IsRunInSomeOrder begin p.0 p.1 (whole shards)) (λ i. ((sym out.events_are) i, (sym out.sent_are) i))
      (joined begin (whole_base shards) (whole shards) out.before_cut out.kept out.sent_before_cut out.sent_kept out.to_cut out.from_cut) in
      subst (StandsBehind begin (events ++ []) (sent ++ [])) (sym now) (record {
        directory = out.directory;
        are_bases = bases_of_shards out.directory cut (subst (AreShards out.directory) (sym is)
            (cut_shards out.directory shards out.are_shards (subst (All LogKeeps) is keeps)));
        before_cut = events;
        sent_before_cut = sent;
        events_are = refl;
        sent_are = refl;
        pairs = refl;
        to_cut = subst (IsRunInSomeOrder begin events sent) (sym (ap whole_of bases_now ∙ whole_of_states shards)) run;
      }),
)

-- the empty list of events continues every run
pub stays : (s after : SharedState) → after ≡ s → GoesOn s [] [] after
stays s after is = (
  refl,
  λ begin events sent h. subst (λ (p : List RawEvent × List (List RawOut)). StandsBehind begin p.0 p.1 after)
      (λ i. ((sym (append-nil events)) i, (sym (append-nil sent)) i))
      (subst (StandsBehind begin events sent) (sym is) h),
)

-- after nothing, these events
pub goes_on_after : (a b c : SharedState) (events : List RawEvent) (sent : List (List RawOut)) → GoesOn a [] [] b → GoesOn b events sent c
    → GoesOn a events sent c
goes_on_after a b c events sent first next = (
  next.0,
  λ begin earlier sent_earlier h. next.1 begin earlier sent_earlier
      (subst (λ (p : List RawEvent × List (List RawOut)). StandsBehind begin p.0 p.1 b) (λ i. (append-nil earlier i, append-nil sent_earlier i))
      (first.1 begin earlier sent_earlier h)),
)

-- ---- as the code has them

pub cut_goes : (before : SharedState) (bases_then now : List ShardState) (jobs no_jobs : List Job) (receipts no_receipts : List Receipt) (shards cut : List Log)
    → before ≡ shared_state bases_then jobs receipts → AreSettled bases_then jobs receipts shards → cut ≡ map cut_log shards → All LogKeeps cut → now ≡ bases_of cut
    → no_jobs ≡ [] → no_receipts ≡ [] → GoesOn before [] [] (shared_state now no_jobs no_receipts)
cut_goes before bases_then now jobs no_jobs receipts no_receipts shards cut was settled is keeps bases none nothing =
    cut_stands before (shared_state now no_jobs no_receipts) shards cut
    (subst (λ (s : SharedState). AreSettled s.bases s.jobs s.receipts shards) (sym was) settled) is keeps
    (λ i. shared_state (bases i) (none i) (nothing i))

pub closes : (s : SharedState) (bases_then : List ShardState) (jobs : List Job) (receipts : List Receipt) (shards : List Log)
    → s ≡ shared_state bases_then jobs receipts → AreSettled bases_then jobs receipts shards
    → (begin : State) (events : List RawEvent) (sent : List (List RawOut)) → StandsBehind begin events sent s → HandsOut begin events sent shards
closes s bases_then jobs receipts shards was settled = hands_out s shards
    (subst (λ (t : SharedState). AreSettled t.bases t.jobs t.receipts shards) (sym was) settled)

-- What a part does, once there is room.
pub part_handled : (a b c after : SharedState) (jobs : List Job) (receipts : List Receipt) (raws : List RawEvent) → GoesOn a [] [] b
    → c ≡ b
    → events_of_jobs jobs ≡ raws
    → jobs_of_receipts receipts ≡ numbers_of_jobs jobs
    → after ≡ shared_state c.bases (c.jobs ++ jobs) (c.receipts ++ receipts)
    → (last : List Receipt) × GoesOn a raws (sent_for last) after × AreLast last after
part_handled a b c after jobs receipts raws room same events pairs kept = (
  receipts,
  subst (λ (es : List RawEvent). GoesOn a es (sent_for receipts) after) events
      (goes_on_after a b after (events_of_jobs jobs) (sent_for receipts) room
      (subst (λ (s : SharedState). GoesOn s (events_of_jobs jobs) (sent_for receipts) after) same (goes_on_by c jobs receipts after pairs kept))),
  (c.receipts, ap (λ (s : SharedState). s.receipts) kept),
)

-- one more shard is cut
module _ (shards : List Log) (i : ℕ) (l m : Log) (low : i < length shards) where
  pub cut_more : (all : List Log) → m ≡ cut_log (get_or shards i l) → take i shards ++ map cut_log (drop i shards) ≡ map cut_log all
      → take (i + 1) (set shards i m) ++ map cut_log (drop (i + 1) (set shards i m)) ≡ map cut_log all
  cut_more all cut so_far =
      let left : drop i shards ≡ get_or shards i l ∷ drop (i + 1) shards = rw add-one (drop-cons shards i l low) in
      rw (take_more_set shards i m low, drop-set-lt (i + 1) shards i m (omega arith)) (
      append_assoc (take i shards) (m ∷ []) (map cut_log (drop (i + 1) shards))
      ∙ ap (λ (k : Log). take i shards ++ k ∷ map cut_log (drop (i + 1) shards)) cut ∙ ap (λ (p : List Log). take i shards ++ map cut_log p) (sym left)
      ∙ so_far)

  pub keeps_more : All LogKeeps (take i shards) → LogKeeps m → All LogKeeps (take (i + 1) (set shards i m))
  keeps_more so_far keeps = subst (All LogKeeps) (sym (take_more_set shards i m low)) (All-push LogKeeps (take i shards) m so_far keeps)

-- all are cut
pub cut_whole : (shards all : List Log) (i : ℕ) → length shards ≤ i → take i shards ++ map cut_log (drop i shards) ≡ map cut_log all → shards ≡ map cut_log all
cut_whole shards all i past so_far =
    sym (append-nil shards) ∙ (rw (take_all i shards past, drop_all i shards past) at so_far)
