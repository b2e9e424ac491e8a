-- Journals of octets. Each spells one journal of messages, and statements about it are about that one.
use Rattle.std.specs.Prelude.{◌≡◌, ℕ, ◌<◌, List, [], ◌∷◌, ◌++◌, Bool, true, false, cond, filter}
use Rattle.machine.specs.Keys.{Every, put_at}
use Rattle.machine.specs.declared.numbers.TheConstants.{SHARDS, RESOURCE_LIMITATION}
use Rattle.machine.specs.Sent.{Cause, SentAbort}
use Rattle.machine.specs.State.{State}
use Rattle.machine.specs.Legal.{Entry, Legal}
use Rattle.machine.specs.Holders.{Holding, holders, is_subject}
use Rattle.frames.specs.Sane.{Sane}
use Rattle.frames.specs.SentTrees.{octets_of_sent}
use Rattle.frames.specs.Octets.{RawEvent, RawFrame, RawClock, RawExpire, RawChange, RawOut, RawEntry, SpellsJournal}

-- A legal journal of octets of shard n: it spells a legal journal of messages, so its events lead from one sound state of the
-- shard to another, and its octets are what is sent.
pub record LegalOctets (n : ℕ) (base : State) (raws : List RawEntry) (after : State) : Type 0 where
  pub journal : List Entry
  pub spelled : SpellsJournal raws journal
  pub legal : Legal n base journal after

-- The registers that hold x after a journal of octets: those after the journal that it spells.
pub record AreHolders (n : ℕ) (base : State) (raws : List RawEntry) (after : State) (x : List ℕ) (holding : Holding) : Type 0 where
  pub octets : LegalOctets n base raws after
  pub same : holding ≡ holders base octets.journal x

-- each message that the entries send is sane
abbrev pub SaneEntries : List Entry → Type 0
SaneEntries journal = Every (λ entry. Every (λ out. Sane out.message) entry.answer.sent) journal

-- ---- one subscriber's own entries

abbrev pub is_raw_clock : RawEvent → Bool
is_raw_clock (RawFrame from octets) = false
is_raw_clock (RawClock shard now) = true
is_raw_clock (RawExpire shard) = false
is_raw_clock (RawChange imsi change) = false

-- the entries whose subject is x, and every clock entry
abbrev pub is_raw_of : List ℕ → RawEntry → Bool
is_raw_of x raw = cond (is_raw_clock raw.event) true (is_subject x raw.subject)

abbrev pub only_raw_of : List RawEntry → List ℕ → List RawEntry
only_raw_of raws x = filter (is_raw_of x) raws

-- the first frame is an Abort with the cause resourceLimitation: an update met a full shard
abbrev pub IsTurnedAway : List RawOut → Type 0
IsTurnedAway [] = ⊥
IsTurnedAway (out ∷ outs) = (destination : List ℕ) × (out.octets ≡ octets_of_sent (SentAbort destination (Cause RESOURCE_LIMITATION)))

abbrev pub NoRawTurnedAway : List RawEntry → List ℕ → Type 0
NoRawTurnedAway raws x = Every (λ raw. is_subject x raw.subject ≡ true → IsTurnedAway raw.outs → ⊥) raws

-- ---- one journal made of sixteen

-- The merge has the entries of the sixteen journals, each journal's in their order.
abbrev pub MergesOctets : (ℕ → List RawEntry) → List RawEntry → Type 0
MergesOctets journals [] = (n : ℕ) → n < SHARDS → journals n ≡ []
MergesOctets journals (raw ∷ merge) =
    (n : ℕ) × (rest : List RawEntry) × (n < SHARDS) × (journals n ≡ raw ∷ rest) × MergesOctets (put_at journals n rest) merge

-- ---- consecutive epochs

pub record RawEpoch : Type 0 where
  pub base : State
  pub entries : List RawEntry

-- the state in which the epochs begin; if there are none, the shard's own base
abbrev pub first_raw_base : List RawEpoch → State → State
first_raw_base [] base = base
first_raw_base (epoch ∷ epochs) base = epoch.base

-- Each epoch's journal is legal from its base to the next base, the last one to the base of the shard.
abbrev pub ChainOctets : ℕ → List RawEpoch → State → Type 0
ChainOctets n [] base = Unit {0}
ChainOctets n (epoch ∷ epochs) base = LegalOctets n epoch.base epoch.entries (first_raw_base epochs base) × ChainOctets n epochs base

-- the journals of the epochs, one after the other
abbrev pub joined_raws : List RawEpoch → List RawEntry
joined_raws [] = []
joined_raws (epoch ∷ epochs) = epoch.entries ++ joined_raws epochs
