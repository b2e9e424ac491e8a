-- What a call does to what a handle has.
use Rattle.std.specs.Prelude.{◌≡◌, ◌⊎◌, ◌≤◌, ◌^◌, ℕ, zero, suc, List, drop, length, slice_get, take, Some, None}
use Rattle.frames.specs.Octets.{RawEvent, RawOut}
use Rattle.hlr_types.specs.DigitTexts.{text_of}
use Rattle.records.specs.File.{Contents, File}
use Rattle.shardlog.specs.declared.keep.Keep.{Keep}
use Rattle.shardlog.specs.declared.keep.Keep.TheVariants.{Entries, Nothing}
use Rattle.embed.specs.Images.{IsSaved}
use Rattle.embed.specs.Journals.{CutsOff, ListsShard}
use Rattle.embed.specs.LogLines.{IsClockLine, IsEventLine}
use Rattle.embed.specs.Lookups.{IsIdle}
use Rattle.embed.specs.Registers.{RegisterState, Opens, Answers, SetsClocks}
use Rattle.embed.specs.Buffers.{Writes}
use Rattle.kunchrol.specs.Handles.{Held}

-- Whether journals are kept, by the number that asks for them.
abbrev pub keep_of : ℕ → Keep
keep_of zero = Nothing
keep_of (suc n) = Entries

-- The handle was closed, and has the register of the records file that the text is, at the start with this number, with journals or without.
pub record OpensText (text : List ℕ) (keep : Keep) (start : ℕ) (before after : Held) : Type 0 where
  pub was_closed : before ≡ None
  pub contents : Contents
  pub file : File text contents
  pub is : RegisterState
  pub after_is : after ≡ Some is
  pub opens : Opens contents keep start is

-- The register takes an event of the kind asked for, which does something, by a step of the machine, and exactly the frames that it sends
-- wait after those that still wait.
pub record Takes (IsAsked : RawEvent → Type 0) (before after : Held) : Type 0 where
  pub was : RegisterState
  pub is : RegisterState
  pub before_is : before ≡ Some was
  pub after_is : after ≡ Some is
  pub raw : RawEvent
  pub asked : IsAsked raw
  pub does : IsIdle was.node raw → ⊥
  pub answers : Answers was raw is

-- The clock of each shard is set: at most 2^62 ticks (profile).
pub record SetsAll (now : ℕ) (before after : Held) : Type 0 where
  pub early : now ≤ 2 ^ 62
  pub was : RegisterState
  pub is : RegisterState
  pub before_is : before ≡ Some was
  pub after_is : after ≡ Some is
  pub sets : SetsClocks was now is

-- The line of a log has an event, which the register takes, or a clock value, to which the clock of each shard is set.
abbrev pub GivesLine : List ℕ → (before after : Held) → Type 0
GivesLine line before after = Takes (IsEventLine line) before after ⊎ ((now : ℕ) × IsClockLine line now × SetsAll now before after)

-- The first frame that waits is written into the rooms, the digits of its destination as text, and waits no more.
pub record SendsFrame (before : Held) (to : List ℕ) (to_len : ℕ) (octets : List ℕ) (octets_len : ℕ) (after : Held) : Type 0 where
  pub was : RegisterState
  pub is : RegisterState
  pub before_is : before ≡ Some was
  pub after_is : after ≡ Some is
  pub out : RawOut
  pub first : slice_get was.waiting 0 ≡ Some out
  pub rest : is.waiting ≡ drop 1 was.waiting
  pub node : is.node ≡ was.node
  pub to_len_is : to_len ≡ length (text_of out.to)
  pub to_is : take to_len to ≡ text_of out.to
  pub octets_len_is : octets_len ≡ length out.octets
  pub octets_is : take octets_len octets ≡ out.octets

-- The records are written at the front of the buffer as a records file, from which they are loaded again.
pub record SavesRecords (before : Held) (room_before : List ℕ) (count : ℕ) (room_after : List ℕ) (after : Held) : Type 0 where
  pub was : RegisterState
  pub before_is : before ≡ Some was
  pub unchanged : after ≡ before
  pub text : List ℕ
  pub saves : IsSaved was.node text
  pub writes : Writes text room_before count room_after

-- The journal of a shard is cut off, and its listing is written at the front of the buffer.
pub record CutsJournal (before : Held) (shard : ℕ) (room_before : List ℕ) (count : ℕ) (room_after : List ℕ) (after : Held) : Type 0 where
  pub was : RegisterState
  pub is : RegisterState
  pub before_is : before ≡ Some was
  pub after_is : after ≡ Some is
  pub cuts : CutsOff was shard is
  pub text : List ℕ
  pub lists : ListsShard was.node shard text
  pub writes : Writes text room_before count room_after
