-- The states in which journals begin, and the shards that have them.
use Rattle.std.proofs.Common.{◌≡◌, ℕ, zero, suc, List, [], ◌∷◌, length, refl, sym, ap, subst, ◌∙◌, Some}
use Rattle.std.specs.Prelude.{All, map as each, option_map, slice_get}
use Rattle.std.proofs.lemmas.List.{length-map}
use Rattle.std.proofs.lemmas.Option.{get_or_from_slice_get, same_Some, slice_get-map, slice_get_within}
use Rattle.records.specs.Maps.{DirectoryMap}
use Rattle.hlrcore.specs.Shards.{ShardState}
use Rattle.shardlog.specs.declared.keep.Keep.{Keep}
use Rattle.shardlog.specs.Log.{Log, LogKeeps, fresh}
use Rattle.wholenode.specs.Keeping.{AreShards, AreStates, IsShardAt, IsStateAt}

-- the base of a shard
abbrev pub log_base : Log → ShardState
log_base l = l.base

-- the element of a mapped list is mapped
mapped : {X Y : Type 0} (f : X → Y) (xs : List X) (n : ℕ) (y : Y) → slice_get (each f xs) n ≡ Some y → (x : X) × (slice_get xs n ≡ Some x) × (f x ≡ y)
mapped f [] n y e = absurd cc
mapped f (x ∷ xs) zero y e = (x, refl, same_Some (f x) y e)
mapped f (x ∷ xs) (suc n) y e = mapped f xs n y e

base_at : (n : ℕ) (directory : DirectoryMap) (hlr : List ℕ) (l : Log) → IsShardAt n directory hlr l → IsStateAt n directory hlr l.base
base_at n directory hlr l is = record {
  shard_is = sym is.keeps.same.shard ∙ is.state_is.shard_is;
  directory_is = sym is.keeps.same.directory ∙ is.state_is.directory_is;
  hlr_is = sym is.keeps.same.hlr ∙ is.state_is.hlr_is;
}

-- the bases of the shards of one register
pub bases_of_shards : (directory : DirectoryMap) (shards : List Log) → AreShards directory shards → AreStates directory (each log_base shards)
bases_of_shards directory shards are = record {
  hlr = are.hlr;
  count = length-map shards log_base ∙ are.count;
  each = λ n base e.
      let found = mapped log_base shards n base e in
      subst (IsStateAt n directory are.hlr) found.2 (base_at n directory are.hlr found.0 (are.each n found.0 found.1));
}

shard_at : (n : ℕ) (directory : DirectoryMap) (hlr : List ℕ) (l : Log) → LogKeeps l → IsStateAt n directory hlr l.base → IsShardAt n directory hlr l
shard_at n directory hlr l keeps is = record {
  keeps = keeps;
  state_is = record {
    shard_is = keeps.same.shard ∙ is.shard_is;
    directory_is = keeps.same.directory ∙ is.directory_is;
    hlr_is = keeps.same.hlr ∙ is.hlr_is;
  };
}

-- the shards with the bases of one register
pub shards_of_bases : (directory : DirectoryMap) (shards : List Log) (bases : List ShardState) → each log_base shards ≡ bases → All LogKeeps shards
    → AreStates directory bases
    → AreShards directory shards
shards_of_bases directory shards bases same keeps are = record {
  hlr = are.hlr;
  count = sym (length-map shards log_base) ∙ ap length same ∙ are.count;
  each = λ n l e.
      let kept : LogKeeps l = subst LogKeeps (get_or_from_slice_get shards n l l e) (keeps n l (slice_get_within shards n l e)) in
      let at : slice_get bases n ≡ Some l.base = sym (ap (λ (xs : List ShardState). slice_get xs n) same) ∙ slice_get-map log_base shards n
      ∙ ap (option_map log_base) e in
      shard_at n directory are.hlr l kept (are.each n l.base at);
}

-- empty journals begin in the states of their shards
begin_in : (keep : Keep) (states : List ShardState) → each log_base (each (fresh keep) states) ≡ states
begin_in keep [] = refl
begin_in keep (s ∷ ss) = ap (λ z. s ∷ z) (begin_in keep ss)

-- states of one register, each with an empty journal
pub with_empty_journals : (directory : DirectoryMap) (keep : Keep) (states : List ShardState) (shards : List Log) → AreStates directory states
    → shards ≡ each (fresh keep) states → All LogKeeps shards → AreShards directory shards
with_empty_journals directory keep states shards are is keeps =
    shards_of_bases directory shards states (ap (each log_base) is ∙ begin_in keep states) keeps are
