-- How a text goes on with lines that can be read again.
use Rattle.std.specs.Prelude.{◌≡◌, ℕ, ℤ, List, ◌++◌}
use Rattle.std.specs.List.{AllByRecursion}
use Rattle.csl.specs.declared.was.Was.{Was}
use Rattle.csl.specs.Seen.{invocation_of}
use Rattle.image_lines.specs.Lines.{IsLine, Line, Waits}
use Rattle.images.specs.Written.{lines_text}

-- The text goes on with these lines, and each of them can be read again.
pub record GoesOnWith (lines : List Line) (old new : List ℕ) : Type 0 where
  pub text : new ≡ old ++ lines_text lines
  pub each : AllByRecursion IsLine lines

-- The line of an invocation, from its id, its state and its deadline.
abbrev pub waits_line : ℤ × Was × ℕ → Line
waits_line told = Waits (invocation_of told.0 told.1 told.2)
