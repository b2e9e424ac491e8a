-- The whole state, and the part of each shard.
use Rattle.std.specs.Prelude.{◌≡◌, ℕ, List, cond, ◌==◌, nat_lt, None}
use Rattle.machine.specs.Keys.{shard_of, shard_of_id}
use Rattle.machine.specs.declared.numbers.TheConstants.{SHARDS}
use Rattle.machine.specs.State.{State}

-- The part of a shard: its subscribers, its dialogues and its clock.
unfoldable pub part : State → ℕ → State
part S shard = record {
  records = λ imsi. cond (shard_of imsi == shard) (S.records imsi) None;
  dialogues = λ id. cond (shard_of_id id == shard) (S.dialogues id) None;
  clocks = λ n. cond (n == shard) (S.clocks n) 0;
  directory = S.directory;
  hlr = S.hlr;
}

-- the whole state of sixteen states of shards
unfoldable pub union : (ℕ → State) → State
union states = record {
  records = λ imsi. (states (shard_of imsi)).records imsi;
  dialogues = λ id. cond (nat_lt (shard_of_id id) SHARDS) ((states (shard_of_id id)).dialogues id) None;
  clocks = λ n. cond (nat_lt n SHARDS) ((states n).clocks n) 0;
  directory = (states 0).directory;
  hlr = (states 0).hlr;
}

-- from S to T, nothing outside of shard n changes
pub record Leaves (S T : State) (n : ℕ) : Type 0 where
  pub records : (x : List ℕ) → (shard_of x ≡ n → ⊥) → T.records x ≡ S.records x
  pub dialogues : (i : List ℕ) → (shard_of_id i ≡ n → ⊥) → T.dialogues i ≡ S.dialogues i
  pub clocks : (m : ℕ) → (m ≡ n → ⊥) → T.clocks m ≡ S.clocks m
  pub directory : T.directory ≡ S.directory
  pub hlr : T.hlr ≡ S.hlr
