-- What the image of a register and a restored register are for a handle.
use Rattle.std.specs.Prelude.{◌≡◌, ◌<◌, ◌≤◌, ◌⊎◌, ℕ, List, Some, None}
use Rattle.records.specs.File.{Contents, File}
use Rattle.images.specs.declared.fault.ImageFault.TheVariants.{CutShort, Line, Memory}
use Rattle.shardlog.specs.declared.keep.Keep.{Keep}
use Rattle.embed.specs.declared.fault.RestoreFault.{RestoreFault}
use Rattle.embed.specs.declared.fault.RestoreFault.TheVariants.{Image, Records}
use Rattle.embed.specs.Buffers.{Writes}
use Rattle.embed.specs.Images.{GoesOnFrom, IsImageOf}
use Rattle.embed.specs.Registers.{RegisterState}
use Rattle.embed.specs.Restoring.{IsRestoreFault}
use Rattle.kunchrol.specs.Handles.{Held}
use Rattle.kunchrol.specs.Refusals.{IsClosed, IsMemory, RefusesRoom, code_of_file, line_of_file}

-- The handle was closed, and has the register of this records file that goes on where this image was made, with journals or without.
pub record RestoresText (text image : List ℕ) (keep : Keep) (before after : Held) : Type 0 where
  pub was_closed : before ≡ None
  pub contents : Contents
  pub file : File text contents
  pub is : RegisterState
  pub after_is : after ≡ Some is
  pub goes_on : GoesOnFrom contents keep image is

-- The number for a fault of the records file, or for a line of the image that is at fault (11), or an image that ends too early (12); and the
-- line that is put.
abbrev pub code_of_restore : RestoreFault → ℕ
code_of_restore (Records fault) = code_of_file fault
code_of_restore (Image (Line n)) = 11
code_of_restore (Image CutShort) = 12
code_of_restore (Image Memory) = 8

abbrev pub line_of_restore : RestoreFault → ℕ
line_of_restore (Records fault) = line_of_file fault
line_of_restore (Image (Line n)) = n
line_of_restore (Image CutShort) = 0
line_of_restore (Image Memory) = 0

-- The texts have this fault, and its number and its line are told.
pub record HasFault (text image : List ℕ) (line code : ℕ) : Type 0 where
  pub fault : RestoreFault
  pub is : IsRestoreFault text image fault
  pub line_is : line ≡ line_of_restore fault
  pub code_is : code ≡ code_of_restore fault

-- No register is restored: memory ran out, or the handle has a register (5), or a text has a fault.
abbrev pub RefusesRestore : (text image : List ℕ) → Held → (line code : ℕ) → Type 0
RefusesRestore text image held line code =
    IsMemory code × (line ≡ 0)
    ⊎ (code ≡ 5) × (line ≡ 0) × ((is : RegisterState) × (held ≡ Some is))
    ⊎ (held ≡ None) × HasFault text image line code

-- The image of a shard is written at the front of the buffer.
pub record WritesImage (shard : ℕ) (held : Held) (room_before : List ℕ) (count : ℕ) (room_after : List ℕ) : Type 0 where
  pub is : RegisterState
  pub held_is : held ≡ Some is
  pub text : List ℕ
  pub image : IsImageOf is.node shard text
  pub writes : Writes text room_before count room_after

-- There is no such shard (3), or the handle is closed, or the image is not written.
abbrev pub RefusesImage : (shard : ℕ) → Held → (buffer len code : ℕ) → Type 0
RefusesImage shard held buffer len code =
    (code ≡ 3) × (16 ≤ shard)
    ⊎ (shard < 16) × (IsClosed held code ⊎ ((is : RegisterState) × (held ≡ Some is) × RefusesRoom (IsImageOf is.node shard) buffer len code))
