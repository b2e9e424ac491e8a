-- What holds of journals of octets, as the contracts of this crate's functions state it.
use Rattle.std.specs.Prelude.{◌≡◌, ℕ, ◌<◌, ◌≤◌, List, [], ◌∷◌, ◌++◌, length}
use Rattle.machine.specs.declared.numbers.TheConstants.{SHARDS}
use Rattle.machine.specs.State.{State}
use Rattle.machine.specs.Parts.{union}
use Rattle.machine.specs.Run.{Run}
use Rattle.machine.specs.Legal.{Entry, events_of, answers_of}
use Rattle.machine.specs.Holders.{Holding, serving}
use Rattle.machine.specs.Isolation.{own, SameOf}
use Rattle.machine.specs.Keys.{Every}
use Rattle.machine.specs.Bounds.{AreDigits, ChangeInBounds, StateInBounds}
use Rattle.x690.specs.declared.limits.TheConstants.{MAX_OCTETS}
use Rattle.frames.specs.Octets.{RawEvent, RawFrame, RawClock, RawExpire, RawChange, RawEntry, SpellsJournal, IsRouted, StepOctets, RunOctets}
use Rattle.frames.specs.OctetJournals.{LegalOctets, AreHolders, SaneEntries, only_raw_of, NoRawTurnedAway, MergesOctets, RawEpoch, first_raw_base, ChainOctets, joined_raws}

-- A journal of octets spells one journal of messages if the messages are sane, and from one base in any case; then it leads
-- to one state.
pub record OneJournal : Type 0 where
  pub sane : (raws : List RawEntry) (js ks : List Entry) → SaneEntries js → SaneEntries ks → SpellsJournal raws js → SpellsJournal raws ks → js ≡ ks
  pub legal : (n : ℕ) (base S T : State) (raws : List RawEntry) (a : LegalOctets n base raws S) (b : LegalOctets n base raws T)
      → (a.journal ≡ b.journal) × (S ≡ T)
  pub run : (S T U : State) (raws : List RawEntry) → RunOctets S raws T → RunOctets S raws U → T ≡ U

-- Exactly the serving register, or none, holds each subscriber, and there is one such set.
pub record HoldersAreServing : Type 0 where
  pub serving : (n : ℕ) (base S : State) (raws : List RawEntry) (x : List ℕ) (holding : Holding) → AreHolders n base raws S x holding
      → holding ≡ serving (S.records x)
  pub one : (n : ℕ) (base S T : State) (raws : List RawEntry) (x : List ℕ) (h k : Holding) → AreHolders n base raws S x h → AreHolders n base raws T x k → h ≡ k

-- Isolation: the entries of x are a legal journal from the state with x alone to a state with the same record and dialogues
-- of x.
abbrev pub OwnEntriesAreLegal : Type 0
OwnEntriesAreLegal =
    (n : ℕ) (base S : State) (raws : List RawEntry) (x : List ℕ) → LegalOctets n base raws S → NoRawTurnedAway raws x
    → (T : State) × LegalOctets n (own base x) (only_raw_of raws x) T × SameOf x S T

-- A step of the journal's shard appends its entry.
abbrev pub JournalsGrow : Type 0
JournalsGrow =
    (n : ℕ) (base S T : State) (raws : List RawEntry) (raw : RawEntry) → LegalOctets n base raws S → IsRouted S.directory raw.event n → StepOctets S raw T
    → LegalOctets n base (raws ++ raw ∷ []) T

-- A cut appends its epoch to the chain, and the joined journal of a chain and its shard is legal from the first base.
pub record ChainsAreJournals : Type 0 where
  pub cut : (n : ℕ) (epochs : List RawEpoch) (base state : State) (raws : List RawEntry)
      → ChainOctets n epochs base → LegalOctets n base raws state → ChainOctets n (epochs ++ record { base = base; entries = raws } ∷ []) state
  pub whole : (n : ℕ) (epochs : List RawEpoch) (base state : State) (raws : List RawEntry)
      → ChainOctets n epochs base → LegalOctets n base raws state → LegalOctets n (first_raw_base epochs base) (joined_raws epochs ++ raws) state

-- Every merge of sixteen legal journals is a run from the union of the bases to the union of the states.
abbrev pub MergesAreRuns : Type 0
MergesAreRuns =
    (bases states : ℕ → State) (journals : ℕ → List RawEntry) (merge : List RawEntry)
    → ((n : ℕ) → n < SHARDS → LegalOctets n (bases n) (journals n) (states n))
    → ((n : ℕ) → n < SHARDS → (bases n).directory ≡ (bases 0).directory) → ((n : ℕ) → n < SHARDS → (bases n).hlr ≡ (bases 0).hlr)
    → MergesOctets journals merge → RunOctets (union bases) merge (union states)

-- An event from outside is within bounds: an address has digits, a shard exists, and an operator's codes are codes. The
-- octets of a frame may be any.
abbrev pub RawInBounds : RawEvent → Type 0
RawInBounds (RawFrame from octets) = AreDigits from
RawInBounds (RawClock shard now) = shard < SHARDS
RawInBounds (RawExpire shard) = shard < SHARDS
RawInBounds (RawChange imsi change) = ChangeInBounds change

-- Runs of octets stay within bounds, whatever the octets of the frames are. They send only short frames, and the laws of what
-- is sent apply to each message that these spell.
pub record RunsStayInBounds : Type 0 where
  pub within : (S T : State) (raws : List RawEntry) → StateInBounds S → Every (λ raw. RawInBounds raw.event) raws → RunOctets S raws T
      → StateInBounds T × Every (λ raw. Every (λ out. length out.octets ≤ MAX_OCTETS) raw.outs) raws
  pub sane : (S T : State) (raws : List RawEntry) (js : List Entry) → StateInBounds S → Every (λ raw. RawInBounds raw.event) raws
      → SpellsJournal raws js → Run S (events_of js) T (answers_of js) → SaneEntries js
