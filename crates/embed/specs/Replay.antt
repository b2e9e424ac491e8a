-- The text of a log, and what its lines do (profile).
use Rattle.std.specs.Prelude.{◌≡◌, ◌-◌, ◌+◌, ◌⊎◌, ℕ, List, [], ◌∷◌, ◌++◌, Bool, length, take}
use Rattle.std.specs.List.{flat_map}
use Rattle.frames.specs.Octets.{RawEvent}
use Rattle.texts.specs.Lines.{parts}
use Rattle.wholenode.specs.declared.fault.Cause.{Cause}
use Rattle.wholenode.specs.declared.fault.Cause.TheVariants.{Memory}
use Rattle.wholenode.specs.Handling.{Refuses}
use Rattle.wholenode.specs.Ticking.{RefusesTicks}
use Rattle.embed.specs.declared.fault.LineFault.{LineFault}
use Rattle.embed.specs.declared.fault.LineFault.TheVariants.{NotALine, Refused}
use Rattle.embed.specs.declared.fault.ReplayFault.{ReplayFault}
use Rattle.embed.specs.LogLines.{IsClockLine, IsEventLine}
use Rattle.embed.specs.Registers.{Gives, RegisterState, SetsClocks}

-- ---- the lines of a text

-- The whole lines of a text: those that a line feed ends. What follows the last line feed is a line whose writing was cut off, and is none.
abbrev pub whole_lines : List ℕ → List (List ℕ)
whole_lines text = let between = parts 10 text in take (length between - 1) between

-- The octets of these lines, each with its line feed.
abbrev pub octets_of : List (List ℕ) → List ℕ
octets_of lines = flat_map (λ line. line ++ 10 ∷ []) lines

-- ---- what they do

-- The line has an event, which is handled, or does nothing; or it has a clock value, to which the clock of each shard is set.
abbrev pub Does : RegisterState → (line : List ℕ) → RegisterState → Type 0
Does before line after =
    ((raw : RawEvent) × (is_handled : Bool) × IsEventLine line raw × Gives is_handled before raw after)
    ⊎ ((now : ℕ) × IsClockLine line now × SetsClocks before now after)

-- The lines are done one after the other.
abbrev pub Replays : RegisterState → (lines : List (List ℕ)) → RegisterState → Type 0
Replays before [] after = after ≡ before
Replays before (line ∷ more) after = (between : RegisterState) × Does before line between × Replays between more after

-- ---- why a line is not done

-- The line has an event, or a clock value.
abbrev pub IsLogLine : (line : List ℕ) → Type 0
IsLogLine line = ((raw : RawEvent) × IsEventLine line raw) ⊎ ((now : ℕ) × IsClockLine line now)

-- The line has no event and no clock value.
abbrev pub HasNothing : (line : List ℕ) → Type 0
HasNothing line = ((raw : RawEvent) → IsEventLine line raw → ⊥) × ((now : ℕ) → IsClockLine line now → ⊥)

-- Memory ran out, or the register refuses the line's event, or its clock value, for this cause.
abbrev pub RefusesLine : RegisterState → (line : List ℕ) → Cause → Type 0
RefusesLine at line cause =
    (cause ≡ Memory)
    ⊎ ((raw : RawEvent) × IsEventLine line raw × Refuses at.node raw cause)
    ⊎ ((now : ℕ) × IsClockLine line now × RefusesTicks at.node now cause)

abbrev pub Fails : RegisterState → (line : List ℕ) → LineFault → Type 0
Fails at line NotALine = HasNothing line
Fails at line (Refused cause) = RefusesLine at line cause

-- The lines before this one are done, which are so many octets of the text; this one is not, and changes nothing. Its number is from 1.
pub record StopsReplay (before : RegisterState) (lines : List (List ℕ)) (fault : ReplayFault) (after : RegisterState) : Type 0 where
  pub done : List (List ℕ)
  pub line : List ℕ
  pub rest : List (List ℕ)
  pub lines_are : lines ≡ done ++ line ∷ rest
  pub number : fault.line ≡ length done + 1
  pub used : fault.used ≡ length (octets_of done)
  pub replays : Replays before done after
  pub fails : Fails after line fault.why
