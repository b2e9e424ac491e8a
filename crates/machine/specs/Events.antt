-- What the register receives from outside.
use Rattle.std.specs.Prelude.{ℕ, List}
use Rattle.machine.specs.Received.{Verdict}

-- An operator's change of a subscriber: other teleservice codes, or the end of the subscription.
pub data Change : Type 0 where
  Codes : List ℕ → Change
  Withdraw : Change

-- An event: a frame with its source address and the verdict on it, a clock value for a shard, the expiry of a shard's
-- earliest due timer, or an operator's change.
pub data Event : Type 0 where
  Frame : (from : List ℕ) → Verdict → Event
  Clock : (shard now : ℕ) → Event
  Expire : (shard : ℕ) → Event
  Operator : (imsi : List ℕ) → Change → Event
