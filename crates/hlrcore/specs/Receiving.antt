-- A received frame, for a shard (Q.773, Q.774).
use Rattle.std.specs.Prelude.{◌≡◌, ℕ, List, Option}
use Rattle.machine.specs.Events.{Frame}
use Rattle.machine.specs.Received.{Component, Response, Verdict, Read, Continue}
use Rattle.machine.specs.State.{Dialogue}
use Rattle.machine.specs.Turns.{turn_of_verdict, close_at}
use Rattle.machine.specs.Routing.{route}
use Rattle.frames.specs.Frames.{IsVerdict}
use Rattle.frames.specs.Octets.{RawFrame}
use Rattle.msgarena.specs.JudgedFrame.{JudgedFrame}
use Rattle.hlrcore.specs.declared.answer.StepAnswer.{StepAnswer}
use Rattle.hlrcore.specs.Shards.{ShardState, directory_of}
use Rattle.hlrcore.specs.Leading.{Leads}

-- The frame is for this shard, and its verdict is that of its octets.
pub record IsForMe (s : ShardState) (indication : JudgedFrame) : Type 0 where
  pub routed : route (directory_of s.directory) (Frame indication.from indication.verdict) ≡ s.shard
  pub judged : IsVerdict indication.octets indication.verdict

-- The shard handles the frame with this answer.
abbrev pub Receives : ShardState → JudgedFrame → StepAnswer → ShardState → Type 0
Receives s indication a t = Leads s (RawFrame indication.from indication.octets) a t

-- A Continue with these ids and components, from whatever source.
abbrev pub IsContinueOf : Verdict → (origin destination : List ℕ) → List Component → Type 0
IsContinueOf v origin destination components =
    (response : Option Response) × (v ≡ Read (Continue origin destination response components))

-- An End or an Abort with this destination id.
abbrev pub IsClosing : Verdict → (destination : List ℕ) → Type 0
IsClosing v destination =
    (dialogues : List ℕ → Option Dialogue) (from : List ℕ) → turn_of_verdict dialogues from v ≡ close_at destination (dialogues destination)
