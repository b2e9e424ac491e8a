-- What the replay of a log does to what a handle has.
use Rattle.std.specs.Prelude.{◌≡◌, ◌⊎◌, ℕ, List, [], length, Some}
use Rattle.embed.specs.declared.fault.LineFault.{LineFault}
use Rattle.embed.specs.declared.fault.LineFault.TheVariants.{NotALine, Refused}
use Rattle.embed.specs.declared.fault.ReplayFault.{ReplayFault}
use Rattle.embed.specs.Registers.{RegisterState}
use Rattle.embed.specs.Replay.{Replays, StopsReplay, octets_of, whole_lines}
use Rattle.kunchrol.specs.Handles.{Held}
use Rattle.kunchrol.specs.Refusals.{IsClosed, code_of}

-- The whole lines of the text are done, one after the other, and so many octets are theirs.
pub record ReplaysText (text : List ℕ) (before : Held) (used : ℕ) (after : Held) : Type 0 where
  pub was : RegisterState
  pub is : RegisterState
  pub before_is : before ≡ Some was
  pub after_is : after ≡ Some is
  pub replays : Replays was (whole_lines text) is
  pub used_is : used ≡ length (octets_of (whole_lines text))

-- The number for a line that is not done: it is no line of a log (3), or the number for the cause for which the register refuses it.
abbrev pub code_of_line : LineFault → ℕ
code_of_line NotALine = 3
code_of_line (Refused cause) = code_of cause

-- The lines before this one are done, which are so many octets, and it is not.
pub record StopsAt (was : RegisterState) (lines : List (List ℕ)) (used line code : ℕ) (is : RegisterState) : Type 0 where
  pub fault : ReplayFault
  pub stops : StopsReplay was lines fault is
  pub used_is : used ≡ fault.used
  pub line_is : line ≡ fault.line
  pub code_is : code ≡ code_of_line fault.why

-- Nothing is done, since the handle is closed; or not all lines are done.
abbrev pub RefusesReplay : (text : List ℕ) (before : Held) (used line code : ℕ) (after : Held) → Type 0
RefusesReplay text before used line code after =
    IsClosed before code × (after ≡ before) × (used ≡ 0) × (line ≡ 0)
    ⊎ ((was is : RegisterState) × (before ≡ Some was) × (after ≡ Some is) × StopsAt was (whole_lines text) used line code is)

-- No frame waits any more, and nothing else changes.
pub record DropsFrames (before after : Held) : Type 0 where
  pub was : RegisterState
  pub is : RegisterState
  pub before_is : before ≡ Some was
  pub after_is : after ≡ Some is
  pub none : is.waiting ≡ []
  pub node : is.node ≡ was.node
