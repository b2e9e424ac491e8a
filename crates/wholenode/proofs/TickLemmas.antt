-- One clock value for all shards is one event for each of them, in order.
use Rattle.std.proofs.Common.{◌≡◌, ℕ, suc, List, [], ◌∷◌, ◌++◌, length, map, set, refl, sym, ap, subst, ◌∙◌}
use Rattle.std.specs.Prelude.{Result, Ok, Err, OnOk, OnErr, Some, slice_get}
use Rattle.std.specs.List.{AllByRecursion}
use Rattle.machine.specs.Events.{Event, Frame, Clock, Expire, Operator}
use Rattle.machine.specs.Routing.{route}
use Rattle.machine.specs.State.{State}
use Rattle.machine.specs.Step.{Answer, Full, Step, Taken, outcome_in}
use Rattle.machine.specs.Turns.{Begins, Ticks, Turn}
use Rattle.frames.specs.Octets.{IsEvent, IsRouted, RawClock, RawEntry, RawEvent, StepOctets, spelled_out}
use Rattle.records.specs.Maps.{DirectoryMap}
use Rattle.hlrcore.specs.Shards.{directory_of, state_of}
use Rattle.shardlog.specs.declared.entry.Handled.{Handled}
use Rattle.shardlog.specs.declared.fault.ShardFault.{ShardFault}
use Rattle.shardlog.specs.declared.fault.ShardFault.TheVariants as shard
use Rattle.shardlog.specs.Handling.{Handles}
use Rattle.shardlog.specs.Log.{Log}
use Rattle.shardlog.specs.Ticking.{AreTicked, Hinders}
use Rattle.shardlog.specs.Ticking as log
use Rattle.wholenode.specs.Causes.{unhandled}
use Rattle.wholenode.specs.Handling.{IsFor, Runs, Takes, sent_of}
use Rattle.wholenode.specs.Keeping.{AreShards}
use Rattle.wholenode.specs.Nodes.{NodeState, node}
use Rattle.wholenode.specs.Ticking.{RefusesTicks, TicksAll, clocks_from}
use Rattle.wholenode.proofs.RunLemmas.{takes}
use Rattle.wholenode.proofs.WholeLemmas.{replaced}

-- ---- one shard after others

at_front : {X : Type 0} (front : List X) (x : X) (rest : List X) → slice_get (front ++ x ∷ rest) (length front) ≡ Some x
at_front [] x rest = refl
at_front (y ∷ front) x rest = at_front front x rest

set_front : {X : Type 0} (front : List X) (x y : X) (rest : List X) → set (front ++ x ∷ rest) (length front) y ≡ front ++ y ∷ rest
set_front [] x y rest = refl
set_front (z ∷ front) x y rest = ap (λ zs. z ∷ zs) (set_front front x y rest)

one_more : {X : Type 0} (front : List X) (x : X) (rest : List X) → (front ++ x ∷ []) ++ rest ≡ front ++ x ∷ rest
one_more [] x rest = refl
one_more (y ∷ front) x rest = ap (λ ys. y ∷ ys) (one_more front x rest)

count_more : {X : Type 0} (front : List X) (x : X) → length (front ++ x ∷ []) ≡ suc (length front)
count_more [] x = refl
count_more (y ∷ front) x = ap suc (count_more front x)

clock_routed : (directory : DirectoryMap) (n now : ℕ) → IsRouted (directory_of directory) (RawClock n now) n
clock_routed directory n now = (Clock n now, (refl, refl), refl)

-- ---- a clock value sends nothing

silent_step : (S : State) (e : Event) (T : State) (a : Answer) (n now : ℕ) → IsEvent (RawClock n now) e → Step S e T a → a.sent ≡ []
silent_step S (Frame from verdict) T a n now is step = absurd is
silent_step S (Clock m t) T a n now is (Taken turn new turns moves) =
    moves.sent ∙ ap (λ (x : Turn). (outcome_in S (route S.directory (Clock m t)) x new).sent) turns
silent_step S (Clock m t) T a n now is (Full turn new turns away) =
    let same : Ticks m t ≡ Begins away.from away.origin away.name away.components = sym turns ∙ away.begins in absurd cc
silent_step S (Expire m) T a n now is step = absurd is
silent_step S (Operator imsi change) T a n now is step = absurd is

silent_entry : (S T : State) (entry : RawEntry) (n now : ℕ) → entry.event ≡ RawClock n now → StepOctets S entry T → entry.outs ≡ []
silent_entry S T entry n now event (j, spells, step) =
    spells.outs ∙ ap (map spelled_out)
    (silent_step S j.event T j.answer n now (subst (λ (r : RawEvent). IsEvent r j.event) event spells.event) step)

silent : (now : ℕ) (l m : Log) (ticks : log.Ticks now l m) → sent_of ticks.handled ≡ []
silent now l m ticks =
    ticks.handles.outs_are
    ∙ silent_entry (state_of l.state) (state_of m.state) ticks.handles.entry l.state.shard now ticks.handles.event_is ticks.handles.step

module _ (directory : DirectoryMap) (now : ℕ) where
  -- the shard at this place is of this number, and what it becomes takes its place
  ticked_at : (front : List Log) (l m : Log) (rest : List Log) → AreShards directory (front ++ l ∷ rest) → log.Ticks now l m
      → AreShards directory (front ++ m ∷ rest)
  ticked_at front l m rest are ticks =
      subst (AreShards directory) (set_front front l m rest)
      (replaced directory (front ++ l ∷ rest) (length front) l m are (at_front front l rest) ticks.keeps ticks.handles.same)

  takes_at : (front : List Log) (l m : Log) (rest : List Log) → AreShards directory (front ++ l ∷ rest) → (ticks : log.Ticks now l m)
      → Takes (node directory (front ++ l ∷ rest)) (RawClock (length front) now) ticks.handled (node directory (front ++ m ∷ rest))
  takes_at front l m rest are ticks =
      let shards = front ++ l ∷ rest in
      let own : l.state.shard ≡ length front = (are.each (length front) l (at_front front l rest)).state_is.shard_is in
      let handles : Handles l (RawClock (length front) now) ticks.handled m =
      subst (λ (n : ℕ). Handles l (RawClock n now) ticks.handled m) own ticks.handles in
      subst (λ (ls : List Log). Takes (node directory shards) (RawClock (length front) now) ticks.handled (node directory ls))
      (set_front front l m rest)
      (takes (node directory shards) directory shards (RawClock (length front) now) ticks.handled (length front) l m refl are
      (at_front front l rest) (clock_routed directory (length front) now) handles)

  -- the shards after those in front, one after the other
  pub runs_from : (front olds news : List Log) → AreShards directory (front ++ olds) → AreTicked now olds news
      → (handled : List Handled) × Runs (node directory (front ++ olds)) (clocks_from (length front) (length olds) now) handled
      (node directory (front ++ news)) × AllByRecursion (λ h. sent_of h ≡ []) handled
  runs_from front [] [] are ticked = ([], refl, tt)
  runs_from front [] (m ∷ ms) are ticked = absurd ticked
  runs_from front (l ∷ ls) [] are ticked = absurd ticked
  runs_from front (l ∷ ls) (m ∷ ms) are ticked =
      let next : AreShards directory (front ++ m ∷ ls) = ticked_at front l m ls are ticked.0 in
      let rest = runs_from (front ++ m ∷ []) ls ms (subst (AreShards directory) (sym (one_more front m ls)) next) ticked.1 in
      let here : Runs (node directory (front ++ m ∷ ls)) (clocks_from (suc (length front)) (length ls) now) rest.0 (node directory (front ++ m ∷ ms)) =
      subst (λ (xs : List Log). Runs (node directory xs) (clocks_from (suc (length front)) (length ls) now) rest.0 (node directory (front ++ m ∷ ms)))
      (one_more front m ls)
      (subst (λ (ys : List Log). Runs (node directory ((front ++ m ∷ []) ++ ls)) (clocks_from (suc (length front)) (length ls) now) rest.0
      (node directory ys)) (one_more front m ms)
      (subst (λ (n : ℕ). Runs (node directory ((front ++ m ∷ []) ++ ls)) (clocks_from n (length ls) now) rest.0
      (node directory ((front ++ m ∷ []) ++ ms))) (count_more front m) rest.1)) in (
        ticked.0.handled ∷ rest.0,
        (node directory (front ++ m ∷ ls), takes_at front l m ls are ticked.0, here),
        (silent now l m ticked.0, rest.2),
      )

  pub shards_from : (front olds news : List Log) → AreShards directory (front ++ olds) → AreTicked now olds news → AreShards directory (front ++ news)
  shards_from front [] [] are ticked = are
  shards_from front [] (m ∷ ms) are ticked = absurd ticked
  shards_from front (l ∷ ls) [] are ticked = absurd ticked
  shards_from front (l ∷ ls) (m ∷ ms) are ticked =
      subst (AreShards directory) (one_more front m ms)
      (shards_from (front ++ m ∷ []) ls ms
      (subst (AreShards directory) (sym (one_more front m ls)) (ticked_at front l m ls are ticked.0)) ticked.1)

  pub ticks_all : (before : NodeState) (olds news : List Log) → node directory olds ≡ before → AreShards directory olds → AreTicked now olds news
      → TicksAll before now (node directory news)
  ticks_all before olds news seen are ticked =
      let all = runs_from [] olds news are ticked in
      record {
        handled = all.0;
        runs =
            subst (λ (b : NodeState). Runs b (clocks_from 0 16 now) all.0 (node directory news)) seen
            (subst (λ (n : ℕ). Runs (node directory olds) (clocks_from 0 n now) all.0 (node directory news)) are.count all.1);
        silent = all.2;
      }

  pub refuses_ticks : (before : NodeState) (shards : List Log) (why : ShardFault) → node directory shards ≡ before → AreShards directory shards
      → Hinders shards why → RefusesTicks before now (unhandled why)
  refuses_ticks before shards why seen are hinders =
      subst (λ (b : NodeState). RefusesTicks b now (unhandled why)) seen (by why hinders)
    where
      here : (n : ℕ) (l : Log) → slice_get shards n ≡ Some l → IsFor (node directory shards) (RawClock n now) n l
      here n l stands = record { routed = clock_routed directory n now; stands = stands }

      by : (f : ShardFault) → Hinders shards f → RefusesTicks (node directory shards) now (unhandled f)
      by shard.NotMine h = absurd h
      by shard.JournalFull h = (h.0, h.1, here h.0 h.1 h.2, (h.3, h.4))
      by shard.NoRoom h = absurd h
      by shard.Memory h = (h.0, h.1, here h.0 h.1 h.2, h.3)

  -- whatever is answered
  same_count : (olds news : List Log) → AreTicked now olds news → length news ≡ length olds
  same_count [] [] ticked = refl
  same_count [] (m ∷ ms) ticked = absurd ticked
  same_count (l ∷ ls) [] ticked = absurd ticked
  same_count (l ∷ ls) (m ∷ ms) ticked = ap suc (same_count ls ms ticked.1)

  pub ticked_count : {A : Type 0} (olds news : List Log) (answer : Result A ShardFault) → OnOk answer (AreTicked now olds news)
      → OnErr answer (news ≡ olds) → length news ≡ length olds
  ticked_count olds news (Ok done) ticked same = same_count olds news ticked
  ticked_count olds news (Err why) ticked same = ap length same

  pub ticked_are : {A : Type 0} (olds news : List Log) (answer : Result A ShardFault) → AreShards directory olds → OnOk answer (AreTicked now olds news)
      → OnErr answer (news ≡ olds) → AreShards directory news
  ticked_are olds news (Ok done) are ticked same = shards_from [] olds news are ticked
  ticked_are olds news (Err why) are ticked same = subst (AreShards directory) (sym same) are

-- no event is for another shard
pub hinders_own : (shards : List Log) (why : ShardFault) → Hinders shards why → why ≡ shard.NotMine → ⊥
hinders_own shards why hinders e = subst (Hinders shards) e hinders
