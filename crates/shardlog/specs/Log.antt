-- A shard with its journal, and the invariant of such a journal.
use Rattle.std.specs.Prelude.{◌≡◌, ◌≤◌, ℕ, List, [], length, Option, Some, None, refl}
use Rattle.std.specs.Coded.{Coded, code_by, coded×, coded_list}
use Rattle.machine.specs.declared.numbers.TheConstants.{MAX_ENTRIES}
use Rattle.machine.specs.Holders.{serving}
use Rattle.machine.specs.Isolation.{SameOf, own}
use Rattle.machine.specs.State.{State}
use Rattle.frames.specs.Octets.{RawEntry}
use Rattle.frames.specs.OctetJournals.{AreHolders, LegalOctets, NoRawTurnedAway, only_raw_of}
use Rattle.hlrcore.specs.Shards.{ShardState, shard_state_code, IsSameShard, state_of}
use Rattle.shardlog.specs.declared.keep.Keep.{Keep}
use Rattle.shardlog.specs.declared.keep.Keep.TheVariants.{Nothing}
use Rattle.shardlog.specs.Codes.{entry_code, keep_code}

-- Whether entries are kept, the state in which the journal begins, its entries, and the current state of the shard.
pub record Log : Type 0 where
  pub keep : Keep
  pub base : ShardState
  pub entries : List RawEntry
  pub state : ShardState

abbrev pub log : Keep → ShardState → List RawEntry → ShardState → Log
log keep base entries state = record { keep = keep; base = base; entries = entries; state = state }

-- No entry yet: the journal begins in the current state.
abbrev pub fresh : Keep → ShardState → Log
fresh keep state = log keep state [] state

-- The journal is cut off.
abbrev pub cut_log : Log → Log
cut_log l = fresh l.keep l.state

abbrev pub log_code : Coded Log
log_code = code_by (Keep × (ShardState × (List RawEntry × ShardState)))
    (coded× keep_code (coded× shard_state_code (coded× (coded_list entry_code) shard_state_code)))
    (λ l. (l.keep, (l.base, (l.entries, l.state)))) (λ p. log p.0 p.1.0 p.1.1.0 p.1.1.1) (λ _. refl)

-- A legal journal of octets between the two states, which are of one shard, with at most 65,536 entries.
pub record IsLog (l : Log) : Type 0 where
  pub legal : LegalOctets l.base.shard (state_of l.base) l.entries (state_of l.state)
  pub same : IsSameShard l.base l.state
  pub few : length l.entries ≤ MAX_ENTRIES

-- What holds for a journal from one state to another, by the octets of its entries alone: exactly the serving register, or
-- none, holds each subscriber; and the entries of one subscriber by themselves are a legal journal, to the same record and the
-- same dialogues of that subscriber, unless an update of this subscriber met a full shard.
pub record Keeps (n : ℕ) (base : State) (entries : List RawEntry) (state : State) : Type 0 where
  pub legal : LegalOctets n base entries state
  pub holders : (imsi : List ℕ) → AreHolders n base entries state imsi (serving (state.records imsi))
  pub alone : (imsi : List ℕ) → NoRawTurnedAway entries imsi
      → (T : State) × LegalOctets n (own base imsi) (only_raw_of entries imsi) T × SameOf imsi state T

-- The invariant of a shard: that of its journal; number, directory and HLR number are those that the journal began with; and
-- where no entries are kept, the journal is empty, and begins in the current state.
pub record LogKeeps (l : Log) : Type 0 where
  pub journal : Keeps l.base.shard (state_of l.base) l.entries (state_of l.state)
  pub same : IsSameShard l.base l.state
  pub few : length l.entries ≤ MAX_ENTRIES
  pub none : l.keep ≡ Nothing → l ≡ cut_log l

-- the base that is held for a journal: where none is, it is the current state
abbrev pub base_of : Option ShardState → ShardState → ShardState
base_of (Some base) state = base
base_of None state = state

-- What a shard holds is a legal journal; where no base is held it is an empty one, and none is where no entries are kept.
pub record IsHeld (keep : Keep) (base : Option ShardState) (entries : List RawEntry) (state : ShardState) : Type 0 where
  pub log_is : IsLog (log keep (base_of base state) entries state)
  pub begins : base ≡ None → entries ≡ []
  pub none : keep ≡ Nothing → base ≡ None
