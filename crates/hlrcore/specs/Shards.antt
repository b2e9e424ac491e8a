-- The state of a shard, as the code has it and as a state of the machine.
use Rattle.std.specs.Prelude.{ℕ, ◌≡◌, ◌<◌, ◌≤◌, List, Option, Some, None, option_map, cond, ◌==◌, refl}
use Rattle.std.specs.FinMap as map
use Rattle.std.specs.Coded.{Coded, code_by, coded×, coded_ℕ}
use Rattle.records.specs.Subscriber.{Subscriber, coded_digits}
use Rattle.records.specs.Maps.{RecordMap, record_map_code, DirectoryMap, directory_map_code}
use Rattle.smroute.specs.Seen.{machine_subscriber}
use Rattle.tidalloc.specs.LiveIds.{unused}
use Rattle.dialogues.specs.Dialogues.{OpenDialogues, open_dialogues_code, dialogues_of}
use Rattle.hlrcore.specs.Ids.{first_generation}
use Rattle.machine.specs.declared.numbers.TheConstants.{SHARDS, MAX_CLOCK}
use Rattle.machine.specs.State as machine

-- The shard's number, its clock, its records and its open dialogues; the directory and the HLR number, which all shards share.
pub record ShardState : Type 0 where
  pub shard : ℕ
  pub clock : ℕ
  pub records : RecordMap
  pub dialogues : OpenDialogues
  pub directory : DirectoryMap
  pub hlr : List ℕ

abbrev pub shard_state_code : Coded ShardState
shard_state_code =
    code_by (ℕ × (ℕ × (RecordMap × (OpenDialogues × (DirectoryMap × List ℕ)))))
    (coded× coded_ℕ (coded× coded_ℕ (coded× record_map_code (coded× open_dialogues_code (coded× directory_map_code coded_digits)))))
    (λ s. (s.shard, (s.clock, (s.records, (s.dialogues, (s.directory, s.hlr))))))
    (λ p. record { shard = p.0; clock = p.1.0; records = p.1.1.0; dialogues = p.1.1.1.0; directory = p.1.1.1.1.0; hlr = p.1.1.1.1.1 })
    (λ _. refl)

abbrev pub shard_of_fields : ℕ → ℕ → RecordMap → OpenDialogues → DirectoryMap → List ℕ → ShardState
shard_of_fields shard clock records dialogues directory hlr =
    record { shard = shard; clock = clock; records = records; dialogues = dialogues; directory = directory; hlr = hlr }

-- There is such a shard, its clock is at most 2^62, and its dialogues have its ids.
pub record IsShardState (s : ShardState) : Type 0 where
  pub shard : s.shard < SHARDS
  pub clock : s.clock ≤ MAX_CLOCK
  pub dialogues : s.dialogues.shard ≡ s.shard

abbrev pub records_of : RecordMap → List ℕ → Option machine.Subscriber
records_of records imsi = option_map machine_subscriber (map.get records imsi)

-- the record of a subscriber, if any
abbrev pub record_at : RecordMap → (imsi : Option (List ℕ)) → Option Subscriber
record_at records None = None
record_at records (Some imsi) = map.get records imsi

abbrev pub directory_of : DirectoryMap → List ℕ → Option (List ℕ)
directory_of directory msisdn = map.get directory msisdn

-- The state of the machine in which only this shard has anything.
unfoldable pub state_of : ShardState → machine.State
state_of s = record {
  records = records_of s.records;
  dialogues = dialogues_of s.dialogues;
  clocks = λ n. cond (n == s.shard) s.clock 0;
  directory = directory_of s.directory;
  hlr = s.hlr;
}

-- A shard at the beginning of the start with this number: these records, no open dialogue, and its clock at 0.
pub record IsOpening (start shard : ℕ) (records : RecordMap) (directory : DirectoryMap) (hlr : List ℕ) (s : ShardState) : Type 0 where
  pub shard_is : s.shard ≡ shard
  pub clock : s.clock ≡ 0
  pub records_are : s.records ≡ records
  pub none_open : dialogues_of s.dialogues ≡ (λ _. None)
  pub no_id_used : s.dialogues.supply ≡ unused (first_generation start)
  pub directory_is : s.directory ≡ directory
  pub hlr_is : s.hlr ≡ hlr

-- What no event changes in a shard: its number, the directory and the HLR number.
pub record IsSameShard (before after : ShardState) : Type 0 where
  pub shard : after.shard ≡ before.shard
  pub directory : after.directory ≡ before.directory
  pub hlr : after.hlr ≡ before.hlr
