-- A line of the code, as the definitions have it.
use Rattle.std.specs.Prelude.{Bool, []}
use Rattle.csl.specs.Seen.{invocation_of}
use Rattle.dialogues.specs.declared.dialogue.Dialogue.{Dialogue}
use Rattle.dialogues.specs.Seen.{dialogue_with}
use Rattle.machine.specs.State as machine
use Rattle.image_lines.specs.declared.line.Line as code
use Rattle.image_lines.specs.declared.line.Line.TheVariants as variant
use Rattle.image_lines.specs.Lines.{Line, Shard, Used, Freed, Opened, Waits, End}

abbrev pub line_of : code.Line → Line
line_of (variant.Shard shard clock first) = Shard shard clock first
line_of (variant.Used id) = Used id
line_of (variant.Freed id) = Freed id
line_of (variant.Opened id is_current dialogue) = Opened id is_current (dialogue_with [] dialogue)
line_of (variant.Waits invoke was deadline) = Waits (invocation_of invoke was deadline)
line_of variant.End = End

-- an open dialogue, and whether it is its subscriber's current update
abbrev pub said_of : Bool × Dialogue → Bool × machine.Dialogue
said_of said = (said.0, dialogue_with [] said.1)
