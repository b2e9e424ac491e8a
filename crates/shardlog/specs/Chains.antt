-- Journals that were cut off one after another.
use Rattle.std.specs.Prelude.{List, ◌++◌, ℕ}
use Rattle.machine.specs.State.{State}
use Rattle.frames.specs.Octets.{RawEntry}
use Rattle.frames.specs.OctetJournals.{ChainOctets, LegalOctets, RawEpoch, first_raw_base, joined_raws}
use Rattle.hlrcore.specs.Shards.{state_of}
use Rattle.shardlog.specs.declared.entry.Epoch.{Epoch}
use Rattle.shardlog.specs.Entries.{raw_entries}
use Rattle.shardlog.specs.Log.{Keeps, Log}

abbrev pub raw_epoch : Epoch → RawEpoch
raw_epoch e = record { base = state_of e.base; entries = raw_entries e.entries.items }

-- The epochs lead to the shard: each one's journal to the base of the next, the last one's to the base of the shard.
abbrev pub LeadTo : List RawEpoch → Log → Type 0
LeadTo epochs l = ChainOctets l.base.shard epochs (state_of l.base)

-- The journals of epochs that lead to a base, and a journal from there, are one journal from the first base, with the invariant
-- of every journal.
abbrev pub JoinedKeep : Type 0
JoinedKeep = (n : ℕ) (epochs : List RawEpoch) (base state : State) (entries : List RawEntry)
    → ChainOctets n epochs base → LegalOctets n base entries state → Keeps n (first_raw_base epochs base) (joined_raws epochs ++ entries) state
