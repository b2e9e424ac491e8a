-- An event that names its shard: a clock value or an expiry.
use Rattle.std.proofs.Common.{◌≡◌, ℕ, ◌<◌, List, get_or, set, sym, ap, subst, ◌∙◌}
use Rattle.std.specs.Prelude.{Result, Err, IfOk, OnErr, Some, slice_get}
use Rattle.std.proofs.lemmas.Option.{slice_get_read}
use Rattle.machine.specs.Events.{Event}
use Rattle.machine.specs.Routing.{route}
use Rattle.frames.specs.Octets.{IsEvent, RawEvent}
use Rattle.records.specs.Maps.{DirectoryMap}
use Rattle.hlrcore.specs.Shards.{directory_of}
use Rattle.shardlog.specs.declared.entry.Handled.{Handled}
use Rattle.shardlog.specs.declared.fault.ShardFault.{ShardFault}
use Rattle.shardlog.specs.declared.fault.ShardFault.TheVariants as shard
use Rattle.shardlog.specs.Handling.{Handles}
use Rattle.shardlog.specs.Log.{Log, LogKeeps}
use Rattle.wholenode.specs.declared.fault.Cause.{Cause}
use Rattle.wholenode.specs.Causes.{unhandled}
use Rattle.wholenode.specs.Handling.{IsFullJournal, Refuses, Takes}
use Rattle.wholenode.specs.Keeping.{AreShards}
use Rattle.wholenode.specs.Nodes.{NodeState, node}
use Rattle.wholenode.proofs.CutLemmas.{took_or_not}
use Rattle.wholenode.proofs.RunLemmas.{refuses, takes}

-- The shard with this number stands at this place.
pub record IsNamed (directory : DirectoryMap) (shards : List Log) (number place : ℕ) (l : Log) : Type 0 where
  pub are : AreShards directory shards
  pub stands : slice_get shards place ≡ Some l
  pub number_is : number ≡ place

pub named : (directory : DirectoryMap) (shards : List Log) (number place : ℕ) (l : Log) → AreShards directory shards
    → place ≡ number → place < 16 → l ≡ get_or shards place l → IsNamed directory shards number place l
named directory shards number place l are is small read = record {
  are = are;
  stands = slice_get_read shards 16 place l (sym are.count) small read;
  number_is = sym is;
}

-- no other shard is asked
pub asked_its_own : {A : Type 0} (directory : DirectoryMap) (shards : List Log) (number place : ℕ) (l : Log) (answer : Result A ShardFault)
    → IsNamed directory shards number place l → (why : ShardFault) → answer ≡ Err why
    → (answer ≡ Err shard.NotMine → (number ≡ l.state.shard → ⊥)) → why ≡ shard.NotMine → ⊥
asked_its_own directory shards number place l answer is why answered not_mine e =
    not_mine (answered ∙ ap (λ (f : ShardFault). Err f) e) (is.number_is ∙ sym (is.are.each place l is.stands).state_is.shard_is)

pub named_refuses : {A : Type 0} (directory : DirectoryMap) (shards : List Log) (number place : ℕ) (l : Log) (answer : Result A ShardFault)
    → IsNamed directory shards number place l → (before : NodeState) (raw : RawEvent) (e : Event) (why : ShardFault) (cause : Cause)
    → node directory shards ≡ before → IsEvent raw e → route (directory_of directory) e ≡ number → answer ≡ Err why → cause ≡ unhandled why
    → (answer ≡ Err shard.JournalFull → IsFullJournal l) → (answer ≡ Err shard.NoRoom → ⊥) → Refuses before raw cause
named_refuses directory shards number place l answer is before raw e why cause seen is_event routed answered cause_is full has_room =
    subst (λ (c : Cause). Refuses before raw c) (sym cause_is)
    (refuses before directory shards raw e why place l seen is.are is.stands is_event (routed ∙ is.number_is)
    (λ same. full (answered ∙ ap (λ (f : ShardFault). Err f) same))
    (λ same. absurd (has_room (answered ∙ ap (λ (f : ShardFault). Err f) same))))

module _ (directory : DirectoryMap) (shards : List Log) (number place : ℕ) (l : Log) (answer : Result Handled ShardFault)
    (is : IsNamed directory shards number place l) where
  pub named_are : (raw : RawEvent) (m : Log) → LogKeeps m → IfOk answer (λ handled. Handles l raw handled m) → OnErr answer (m ≡ l)
      → AreShards directory (set shards place m)
  named_are raw m keeps handles err = took_or_not directory shards place l m raw answer is.are is.stands keeps handles err

  pub named_takes : (before : NodeState) (raw : RawEvent) (e : Event) (m : Log) (handled : Handled) → node directory shards ≡ before
      → IsEvent raw e → route (directory_of directory) e ≡ number → Handles l raw handled m → Takes before raw handled (node directory (set shards place m))
  named_takes before raw e m handled seen is_event routed handles =
      takes before directory shards raw handled place l m seen is.are is.stands (e, is_event, routed ∙ is.number_is) handles
