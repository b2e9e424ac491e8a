-- A register that keeps no journals goes on keeping none.
use Rattle.std.proofs.Common.{◌≡◌, ℕ, List, [], ◌∷◌, sym, ap, subst, ◌∙◌, refl, inl, inr}
use Rattle.std.specs.Prelude.{Result, Err, IfErr, OnErr, Some, slice_get, slice_set}
use Rattle.frames.specs.Octets.{RawEntry, RawEvent}
use Rattle.records.specs.Loaded.{Subscribers}
use Rattle.hlrcore.specs.Shards.{ShardState}
use Rattle.shardlog.specs.declared.entry.Epoch.{Epoch}
use Rattle.shardlog.specs.declared.entry.Handled.{Handled}
use Rattle.shardlog.specs.declared.keep.Keep.{Keep}
use Rattle.shardlog.specs.declared.keep.Keep.TheVariants.{Entries, Nothing}
use Rattle.shardlog.specs.Handling.{recorded}
use Rattle.shardlog.specs.Log.{Log, cut_log}
use Rattle.wholenode.specs.declared.fault.Cause.{Cause}
use Rattle.wholenode.specs.declared.fault.Cause.TheVariants.{Memory, JournalFull, ResetRefused, NoRoom}
use Rattle.wholenode.specs.Handling.{Cuts, Runs, Takes}
use Rattle.wholenode.specs.Nodes.{NodeState, node}
use Rattle.wholenode.specs.Opening.{BeginsWith}
use Rattle.restoring.specs.Restoring.{Restores}
use Rattle.wholenode.specs.Ticking.{RefusesTicks}
use Rattle.wholenode.proofs.OpeningLemmas.{logs_at}
use Rattle.wholenode.proofs.Places.{set_or_not}
use Rattle.embed.specs.Keeping.{KeepsNothing}

pub restores_nothing : (loaded : Subscribers) (keep : Keep) (image : List ℕ) (n : NodeState) → Restores loaded keep image n → keep ≡ Nothing → KeepsNothing n
restores_nothing loaded keep image n restores none = λ k l stands.
    let P : List Log → Type 0 = λ z. slice_get z k ≡ Some l in
    ap (λ (m : Log). m.keep) (logs_at keep restores.shards k l (subst P restores.shards_are stands)).2 ∙ none

pub begins_nothing : (loaded : Subscribers) (keep : Keep) (start : ℕ) (n : NodeState) → BeginsWith loaded keep start n → keep ≡ Nothing → KeepsNothing n
begins_nothing loaded keep start n begins none = λ k l stands.
    let shard = begins.shards_are.each k l stands in ap (λ (m : Log). m.keep) shard.begins ∙ none

recorded_keep : (keep : Keep) (l : Log) (entry : RawEntry) (s : ShardState) → (recorded keep l entry s).keep ≡ keep
recorded_keep Entries l entry s = refl
recorded_keep Nothing l entry s = refl

-- one shard is replaced by one that keeps nothing
set_nothing : (before : NodeState) (place : ℕ) (m : Log) → KeepsNothing before → m.keep ≡ Nothing
    → KeepsNothing (record before { shards = slice_set before.shards place m })
set_nothing before place m none keep = λ k l stands. elim (set_or_not before.shards place k m l stands) [
  | inl h ↦ ap (λ (x : Log). x.keep) (sym h.1) ∙ keep
  | inr h ↦ none k l h
]

pub takes_nothing : (before : NodeState) (raw : RawEvent) (handled : Handled) (after : NodeState) → Takes before raw handled after
    → KeepsNothing before → KeepsNothing after
takes_nothing before raw handled after takes none =
    let kept : takes.next.keep ≡ Nothing =
    ap (λ (m : Log). m.keep) takes.handles.new_is ∙ recorded_keep takes.shard.keep takes.shard takes.handles.entry takes.next.state
    ∙ none takes.place takes.shard takes.is_for.stands in
    subst KeepsNothing (sym takes.changed) (set_nothing before takes.place takes.next none kept)

pub runs_nothing : (before : NodeState) (raws : List RawEvent) (handled : List Handled) (after : NodeState) → Runs before raws handled after
    → KeepsNothing before → KeepsNothing after
runs_nothing before [] [] after runs none = subst KeepsNothing (sym runs) none
runs_nothing before [] (h ∷ hs) after runs none = absurd runs
runs_nothing before (r ∷ rs) [] after runs none = absurd runs
runs_nothing before (r ∷ rs) (h ∷ hs) after (between, first, rest) none =
    runs_nothing between rs hs after rest (takes_nothing before r h between first none)

pub cuts_nothing : (before : NodeState) (n : ℕ) (epoch : Epoch) (after : NodeState) → Cuts before n epoch after → KeepsNothing before
    → KeepsNothing after
cuts_nothing before n epoch after cuts none =
    subst KeepsNothing (sym cuts.changed) (set_nothing before n (cut_log cuts.shard) none (none n cuts.shard cuts.stands))

-- no clock value is refused
pub never_refused : (node : NodeState) (now : ℕ) (cause : Cause) → RefusesTicks node now cause → KeepsNothing node → ⊥
never_refused node now Memory (n, l, is_for, keeps) none = let gone : l.keep ≡ Nothing = none n l is_for.stands in cc
never_refused node now JournalFull (n, l, is_for, full) none =
    let gone : l.keep ≡ Nothing = none n l is_for.stands in let keeps : l.keep ≡ Entries = full.0 in cc
never_refused node now ResetRefused refused none = absurd refused
never_refused node now NoRoom refused none = absurd refused

-- and the cause is told
pub refused_as : {A : Type 0} (r : Result A Cause) (cause : Cause) (before node : NodeState) (now : ℕ) → r ≡ Err cause → node ≡ before
    → RefusesTicks node now cause → IfErr r (RefusesTicks before now)
refused_as {A} r cause before node now told is refused =
    subst (λ (z : Result A Cause). IfErr z (RefusesTicks before now)) (sym told) (subst (λ (n : NodeState). RefusesTicks n now cause) is refused)

pub never_as : {A : Type 0} (r : Result A Cause) (cause : Cause) (before node : NodeState) (now : ℕ) → r ≡ Err cause → node ≡ before
    → RefusesTicks node now cause → KeepsNothing before → OnErr r ⊥
never_as r cause before node now told is refused none = absurd (never_refused node now cause refused (subst KeepsNothing (sym is) none))
