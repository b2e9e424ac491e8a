-- Why a call does nothing, and the number that it answers then.
use Rattle.std.specs.Prelude.{◌≡◌, ◌<◌, ◌≤◌, ◌^◌, ◌⊎◌, ℕ, List, length, slice_get, Some, None}
use Rattle.frames.specs.Octets.{RawEvent, RawOut}
use Rattle.hlr_types.specs.DigitTexts.{text_of}
use Rattle.records.specs.File.{IsBadLine, IsTwice}
use Rattle.records.specs.declared.fault.RecordsFault.{RecordsFault}
use Rattle.records.specs.declared.fault.RecordsFault.TheVariants as file
use Rattle.wholenode.specs.declared.fault.Cause.{Cause}
use Rattle.wholenode.specs.declared.fault.Cause.TheVariants.{Memory, JournalFull, ResetRefused, NoRoom}
use Rattle.wholenode.specs.Handling.{Refuses}
use Rattle.wholenode.specs.Ticking.{RefusesTicks}
use Rattle.embed.specs.declared.fault.BufferFault.{BufferFault}
use Rattle.embed.specs.declared.fault.BufferFault.TheVariants as buffer
use Rattle.embed.specs.Images.{IsSaved}
use Rattle.embed.specs.Journals.{ListsShard}
use Rattle.embed.specs.Keeping.{KeepsNothing}
use Rattle.embed.specs.LogLines.{IsClockLine, IsEventLine}
use Rattle.embed.specs.Lookups.{IsIdle}
use Rattle.embed.specs.Registers.{RegisterState}
use Rattle.kunchrol.specs.Handles.{Held}

-- Memory ran out.
abbrev pub IsMemory : (code : ℕ) → Type 0
IsMemory code = code ≡ 8

-- The handle has no register.
abbrev pub IsClosed : Held → (code : ℕ) → Type 0
IsClosed held code = (code ≡ 4) × (held ≡ None)

-- The number for the cause for which the machine's step is not made.
abbrev pub code_of : Cause → ℕ
code_of JournalFull = 6
code_of NoRoom = 7
code_of Memory = 8
code_of ResetRefused = 8

-- The number for a fault of a records file, and the line that is put.
abbrev pub code_of_file : RecordsFault → ℕ
code_of_file (file.BadLine _) = 9
code_of_file (file.Twice _) = 10
code_of_file file.Memory = 8

abbrev pub line_of_file : RecordsFault → ℕ
line_of_file (file.BadLine line) = line
line_of_file (file.Twice line) = line
line_of_file file.Memory = 0

-- The number where a text is not written into a buffer, and the length that is put, if one is.
abbrev pub code_of_room : BufferFault → ℕ
code_of_room (buffer.Small _) = 2
code_of_room buffer.Memory = 8

abbrev pub len_of_room : (before : ℕ) → BufferFault → ℕ
len_of_room before (buffer.Small len) = len
len_of_room before buffer.Memory = before

-- The register does not handle the event for this cause, and the code is its number.
pub record Hinders (is : RegisterState) (raw : RawEvent) (code : ℕ) : Type 0 where
  pub cause : Cause
  pub refuses : Refuses is.node raw cause
  pub code_is : code ≡ code_of cause

-- The event does nothing (1), or the register does not handle it.
abbrev pub RefusesEvent : RegisterState → RawEvent → (code : ℕ) → Type 0
RefusesEvent is raw code = (code ≡ 1) × IsIdle is.node raw ⊎ Hinders is raw code

-- No clock is set for this cause, which is none if no journals are kept.
pub record RefusesClocks (is : RegisterState) (now code : ℕ) : Type 0 where
  pub cause : Cause
  pub refuses : RefusesTicks is.node now cause
  pub kept : KeepsNothing is.node → ⊥
  pub code_is : code ≡ code_of cause

-- No clock is set: the value is greater than 2^62 (3), or the handle is closed, or the register does not handle it.
abbrev pub RefusesClock : (now : ℕ) → Held → (code : ℕ) → Type 0
RefusesClock now held code =
    (code ≡ 3) × (2 ^ 62 < now)
    ⊎ (now ≤ 2 ^ 62) × (IsClosed held code ⊎ ((is : RegisterState) × (held ≡ Some is) × RefusesClocks is now code))

-- The handle's register refuses it, or there is none.
abbrev pub Refused : RawEvent → Held → (code : ℕ) → Type 0
Refused raw held code = IsClosed held code ⊎ ((is : RegisterState) × (held ≡ Some is) × RefusesEvent is raw code)

-- An event of the kind asked for is not handled: there is none (3), or memory ran out before it was made, or it is refused.
abbrev pub RefusesKind : (IsAsked : RawEvent → Type 0) → Held → (code : ℕ) → Type 0
RefusesKind IsAsked held code =
    IsMemory code
    ⊎ (code ≡ 3) × ((raw : RawEvent) → IsAsked raw → ⊥)
    ⊎ ((raw : RawEvent) × IsAsked raw × Refused raw held code)

-- The line of a log is none (3), or what it has is refused, or memory ran out before it was made.
abbrev pub RefusesLine : List ℕ → Held → (code : ℕ) → Type 0
RefusesLine line held code =
    IsMemory code
    ⊎ (code ≡ 3) × ((raw : RawEvent) → IsEventLine line raw → ⊥) × ((now : ℕ) → IsClockLine line now → ⊥)
    ⊎ ((raw : RawEvent) × IsEventLine line raw × Refused raw held code)
    ⊎ ((now : ℕ) × IsClockLine line now × RefusesClock now held code)

-- A text is not opened: the handle has a register (5), the first line with a fault is a bad line (9) or there twice (10), or memory ran out.
abbrev pub RefusesText : List ℕ → Held → (line code : ℕ) → Type 0
RefusesText text held line code =
    IsMemory code
    ⊎ (code ≡ 5) × ((is : RegisterState) × (held ≡ Some is))
    ⊎ (code ≡ 9) × (held ≡ None) × IsBadLine text line
    ⊎ (code ≡ 10) × (held ≡ None) × IsTwice text line

-- A frame does not fit: it waits, its lengths are put, and a buffer has fewer octets.
pub record TooSmall (is : RegisterState) (to_room octets_room to_len octets_len : ℕ) : Type 0 where
  pub out : RawOut
  pub first : slice_get is.waiting 0 ≡ Some out
  pub to_len_is : to_len ≡ length (text_of out.to)
  pub octets_len_is : octets_len ≡ length out.octets
  pub small : (to_room < to_len) ⊎ (octets_room < octets_len)

-- No frame is given: none waits (1), it does not fit (2), or the handle is closed.
abbrev pub RefusesNext : Held → (to_room octets_room to_len octets_len code : ℕ) → Type 0
RefusesNext held to_room octets_room to_len octets_len code =
    IsClosed held code
    ⊎ ((is : RegisterState) × (held ≡ Some is)
    × ((code ≡ 1) × (slice_get is.waiting 0 ≡ None) ⊎ (code ≡ 2) × TooSmall is to_room octets_room to_len octets_len))

-- A text of this kind is longer than the buffer, and its length is put (2); or memory ran out.
abbrev pub RefusesRoom : (IsText : List ℕ → Type 0) → (buffer len code : ℕ) → Type 0
RefusesRoom IsText buffer len code = IsMemory code ⊎ (code ≡ 2) × ((text : List ℕ) × IsText text × (buffer < len) × (len ≡ length text))

-- The records are not written.
abbrev pub RefusesSave : Held → (buffer len code : ℕ) → Type 0
RefusesSave held buffer len code =
    IsClosed held code ⊎ ((is : RegisterState) × (held ≡ Some is) × RefusesRoom (IsSaved is.node) buffer len code)

-- The journal is not cut: there is no such shard (3), or the handle is closed, or the listing is not written.
abbrev pub RefusesCut : (shard : ℕ) → Held → (buffer len code : ℕ) → Type 0
RefusesCut shard held buffer len code =
    (code ≡ 3) × (16 ≤ shard)
    ⊎ (shard < 16) × (IsClosed held code ⊎ ((is : RegisterState) × (held ≡ Some is) × RefusesRoom (ListsShard is.node shard) buffer len code))
