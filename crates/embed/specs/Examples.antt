-- Worked examples of the lines of a log, of its text, of runs that wrote one, and of the saved file of a register.
use Rattle.std.specs.Prelude.{◌≡◌, ◌-◌, ℕ, false, List, [], ◌∷◌, ◌++◌, Option, Some, None, map as each, slice_get, codes as text}
use Rattle.std.specs.FinMap as map
use Rattle.machine.specs.Events as machine
use Rattle.frames.specs.Octets.{RawFrame, RawExpire, RawChange, RawOut}
use Rattle.records.specs.Loaded.{by_imsi, by_msisdn}
use Rattle.records.specs.Subscriber.{Subscriber}
use Rattle.shardlog.specs.Log.{Log}
use Rattle.wholenode.specs.Nodes.{NodeState}
use Rattle.audit.specs.Listing.{records_in}
use Rattle.embed.specs.Images.{IsSaved}
use Rattle.embed.specs.LogLines.{IsClockLine, IsEventLine}
use Rattle.embed.specs.Lookups.{record_of}
use Rattle.embed.specs.Registers.{RegisterState, SetsClocks}
use Rattle.embed.specs.Replay.{octets_of, whole_lines}
use Rattle.embed.specs.Replaying.{Runs}

-- the digits of a text
abbrev pub digits : List ℕ → List ℕ
digits written = each (λ character. character - 48) written

pub record LogLines : Type 0 where
  pub frame : IsEventLine (text "F 447700900011 6200") (RawFrame (digits (text "447700900011")) (0x62 ∷ 0 ∷ []))
  pub no_octets : IsEventLine (text "F 4 -") (RawFrame (4 ∷ []) [])
  pub clock : IsClockLine (text "C 40") 40
  pub expiry : IsEventLine (text "E 15") (RawExpire 15)
  pub codes : IsEventLine (text "O 234150000000001 11,2A") (RawChange (digits (text "234150000000001")) (machine.Codes (0x11 ∷ 0x2A ∷ [])))
  pub withdrawal : IsEventLine (text "X 234150000000001") (RawChange (digits (text "234150000000001")) machine.Withdraw)

-- a line and its line feed
abbrev pub ended : List ℕ → List ℕ
ended line = line ++ 10 ∷ []

pub record LogTexts : Type 0 where
  pub two_lines : whole_lines (ended (text "C 40") ++ ended (text "E 15")) ≡ text "C 40" ∷ text "E 15" ∷ []
  pub cut_off : whole_lines (ended (text "C 40") ++ text "E 1") ≡ text "C 40" ∷ []
  pub no_line_feed : whole_lines (text "C 40") ≡ []
  pub empty_line : whole_lines (10 ∷ []) ≡ [] ∷ []
  pub octets : octets_of (text "C 40" ∷ text "E 15" ∷ []) ≡ ended (text "C 40") ++ ended (text "E 15")

-- ---- runs

-- a log of two clock values
abbrev pub two_clocks : List (List ℕ)
two_clocks = text "C 40" ∷ text "C 41" ∷ []

-- A run begins each line in the register that the line before left, from which frames may have been taken, and ends in that of the last line. So no
-- run comes to a register with another directory, which no line changes.
pub record LoggedRuns : Type 0 where
  pub no_line : (r : RegisterState) → Runs r [] [] r
  pub two_lines : (before between after : RegisterState) → SetsClocks before 40 between → SetsClocks between 41 after
      → Runs before two_clocks ([] ∷ [] ∷ []) after
  pub frames_taken : (before between after : RegisterState) → SetsClocks before 40 between → SetsClocks (record between { waiting = [] }) 41 after
      → Runs before two_clocks ([] ∷ [] ∷ []) after
  pub other_directory : (before after : RegisterState) (first second : List RawOut) → (after.node.directory ≡ before.node.directory → ⊥)
      → Runs before two_clocks (first ∷ second ∷ []) after → ⊥
  pub frames_of_no_line : (before after : RegisterState) (frames : List RawOut) → Runs before [] (frames ∷ []) after → ⊥

-- ---- the saved file

abbrev pub hlr : List ℕ
hlr = digits (text "447700900100")

-- a subscriber of shard 1, with this id as that of the current update
abbrev pub subscriber : (current : Option (List ℕ)) → Subscriber
subscriber current = record {
  imsi = digits (text "234150000000001");
  msisdn = digits (text "447700900000");
  codes = 0x11 ∷ 0x2A ∷ [];
  roam = None;
  register = None;
  purged = false;
  current = current;
  withdrawn = false;
}

abbrev pub marked : Subscriber
marked = subscriber (Some (1 ∷ 0 ∷ 16 ∷ 0 ∷ []))

-- The register has this HLR number, and one record, which an update marks.
pub record HasOneRecord (node : NodeState) (first : Log) (others : List Log) : Type 0 where
  pub shards : node.shards ≡ first ∷ others
  pub hlr_is : (n : ℕ) (l : Log) → slice_get node.shards n ≡ Some l → l.state.hlr ≡ hlr
  pub records : records_in node.shards ≡ marked ∷ []
  pub record_is : (imsi : List ℕ) → record_of node imsi ≡ map.get (by_imsi (marked ∷ [])) imsi
  pub directory : node.directory ≡ by_msisdn (marked ∷ [])

-- Its saved file has the record, without the mark. The file of no record is not the one.
pub record SavedFiles : Type 0 where
  pub one_record : (node : NodeState) (first : Log) (others : List Log) → HasOneRecord node first others
      → IsSaved node (ended (text "HLR2 447700900100") ++ ended (text "234150000000001 447700900000 11,2A * - a"))
  pub no_record : (node : NodeState) (first : Log) (others : List Log) → HasOneRecord node first others → IsSaved node (ended (text "HLR2 447700900100")) → ⊥
