-- Cutting the journal of one shard, and the shard that an event is for.
use Rattle.std.proofs.Common.{◌≡◌, ℕ, List, [], ◌∷◌, ◌++◌, set, sym, ap, subst, ◌∙◌}
use Rattle.std.specs.Prelude.{Result, Ok, Err, IfOk, OnOk, OnErr, Some, slice_get}
use Rattle.machine.specs.Events.{Event}
use Rattle.machine.specs.Routing.{route}
use Rattle.frames.specs.Octets.{RawEvent}
use Rattle.frames.specs.OctetJournals.{RawEpoch}
use Rattle.records.specs.Maps.{DirectoryMap}
use Rattle.hlrcore.specs.Shards.{directory_of}
use Rattle.shardlog.specs.declared.entry.Epoch.{Epoch}
use Rattle.shardlog.specs.declared.entry.Handled.{Handled}
use Rattle.shardlog.specs.declared.fault.ShardFault.{ShardFault}
use Rattle.shardlog.specs.Chains.{LeadTo, raw_epoch}
use Rattle.shardlog.specs.Entries.{raw_entries}
use Rattle.shardlog.specs.Handling.{Handles}
use Rattle.shardlog.specs.Log.{Log, LogKeeps, cut_log}
use Rattle.wholenode.specs.Handling.{Cuts, Drops}
use Rattle.wholenode.specs.Keeping.{AreShards}
use Rattle.wholenode.specs.Nodes.{NodeState, node}
use Rattle.wholenode.proofs.WholeLemmas.{not_took, replaced, same_whole}

-- a shard in its old state takes its place
pub kept : (directory : DirectoryMap) (shards : List Log) (i : ℕ) (l m : Log) → AreShards directory shards → slice_get shards i ≡ Some l
    → LogKeeps m → m.state ≡ l.state
    → AreShards directory (set shards i m)
kept directory shards i l m are at is same = replaced directory shards i l m are at is (record {
  shard = ap (λ s. s.shard) same;
  directory = ap (λ s. s.directory) same;
  hlr = ap (λ s. s.hlr) same;
})

pub cuts : (before : NodeState) (directory : DirectoryMap) (shards : List Log) (n : ℕ) (epoch : Epoch) (l m : Log)
    → node directory shards ≡ before → slice_get shards n ≡ Some l
    → m ≡ cut_log l → epoch.base ≡ l.base → raw_entries epoch.entries.items ≡ l.entries
    → ((epochs : List RawEpoch) → LeadTo epochs l → LeadTo (epochs ++ raw_epoch epoch ∷ []) m)
    → Cuts before n epoch (node directory (set shards n m))
cuts before directory shards n epoch l m seen at next base entries leads = subst
    (λ (b : NodeState). Cuts b n epoch (node directory (set shards n m))) seen (record {
      shard = l;
      stands = at;
      base = base;
      entries = entries;
      changed = ap (λ (k : Log). node directory (set shards n k)) next;
      leads = λ epochs h. subst (LeadTo (epochs ++ raw_epoch epoch ∷ [])) next (leads epochs h);
      same = same_whole shards n l m at (ap (λ (k : Log). k.state) next);
    })

-- the shard with the index to which an event is routed is the one that it is for
pub is_mine : (directory : DirectoryMap) (shards : List Log) (event : Event) (i : ℕ) (l : Log) → AreShards directory shards
    → i ≡ route (directory_of directory) event
    → slice_get shards i ≡ Some l → route (directory_of l.state.directory) event ≡ l.state.shard
is_mine directory shards event i l are routed at =
    ap (λ (d : DirectoryMap). route (directory_of d) event) (are.each i l at).state_is.directory_is ∙ sym routed ∙ sym (are.each i l at).state_is.shard_is

-- ---- whatever is answered

pub took_or_not : (directory : DirectoryMap) (shards : List Log) (i : ℕ) (l m : Log) (raw : RawEvent) (answer : Result Handled ShardFault)
    → AreShards directory shards
    → slice_get shards i ≡ Some l → LogKeeps m → IfOk answer (λ handled. Handles l raw handled m) → OnErr answer (m ≡ l)
    → AreShards directory (set shards i m)
took_or_not directory shards i l m raw (Ok handled) are at is handles same = replaced directory shards i l m are at is handles.same
took_or_not directory shards i l m raw (Err fault) are at is handles same = not_took directory shards i l m are at is same

pub cut_or_not : {A F : Type 0} (directory : DirectoryMap) (shards : List Log) (i : ℕ) (l m : Log) (answer : Result A F)
    → AreShards directory shards → slice_get shards i ≡ Some l
    → LogKeeps m → OnOk answer (m ≡ cut_log l) → OnErr answer (m ≡ l) → AreShards directory (set shards i m)
cut_or_not directory shards i l m (Ok epoch) are at is next same = kept directory shards i l m are at is (ap (λ (k : Log). k.state) next)
cut_or_not directory shards i l m (Err refused) are at is next same = kept directory shards i l m are at is (ap (λ (k : Log). k.state) same)

pub cuts_if_ok : {F : Type 0} (before : NodeState) (directory : DirectoryMap) (shards : List Log) (n : ℕ) (answer : Result Epoch F)
    (l m : Log) → node directory shards ≡ before
    → slice_get shards n ≡ Some l → OnOk answer (m ≡ cut_log l)
    → IfOk answer (λ epoch. (epoch.base ≡ l.base) × (raw_entries epoch.entries.items ≡ l.entries))
    → IfOk answer (λ epoch. (epochs : List RawEpoch) → LeadTo epochs l → LeadTo (epochs ++ raw_epoch epoch ∷ []) m)
    → IfOk answer (λ epoch. Cuts before n epoch (node directory (set shards n m)))
cuts_if_ok before directory shards n (Ok epoch) l m seen at next was leads = cuts before directory shards n epoch l m seen at next was.0
    was.1 leads
cuts_if_ok before directory shards n (Err refused) l m seen at next was leads = tt

pub drops : (before : NodeState) (directory : DirectoryMap) (shards : List Log) (n : ℕ) (l m : Log) → node directory shards ≡ before
    → slice_get shards n ≡ Some l → m ≡ cut_log l → Drops before n (node directory (set shards n m))
drops before directory shards n l m seen at next =
    subst (λ (b : NodeState). Drops b n (node directory (set shards n m))) seen (record {
      shard = l;
      stands = at;
      changed = ap (λ (k : Log). node directory (set shards n k)) next;
      same = same_whole shards n l m at (ap (λ (k : Log). k.state) next);
    })
