-- A frame that was heard.
use Rattle.std.specs.Prelude.{ℕ, List}
use Rattle.machine.specs.Received.{Verdict}

-- The octets of a frame, their source address, and the verdict on them.
pub record JudgedFrame : Type 0 where
  pub from : List ℕ
  pub octets : List ℕ
  pub verdict : Verdict
