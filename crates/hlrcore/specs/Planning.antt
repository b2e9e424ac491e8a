-- The plan of an event, as the machine's turn.
use Rattle.std.specs.Prelude.{◌≡◌, List, [], Option, Some, None}
use Rattle.machine.specs.Sent.{Out}
use Rattle.machine.specs.Turns.{Turn, Dismissed, Expiry, concern, named}
use Rattle.machine.specs.Step.{outcome_in, subject_of}
use Rattle.hlrcore.specs.declared.plan.Plan.{Plan}
use Rattle.hlrcore.specs.Plans.{CanSettle, id_of, plan_outcome}
use Rattle.hlrcore.specs.Shards.{ShardState, state_of, directory_of}

-- The plan is what the turn does: the same subscriber, the same open dialogue, and the same outcome, with the plan's id for a
-- dialogue that opens.
pub record IsPlan (s : ShardState) (turn : Turn) (plan : Plan) : Type 0 where
  pub can : CanSettle s plan
  pub concern_is : concern (directory_of s.directory) turn ≡ plan.imsi
  pub named_is : named turn ≡ id_of plan.named
  pub leaves : outcome_in (state_of s) s.shard turn plan.new ≡ plan_outcome s plan
  pub subject_is : plan.subject ≡ subject_of (state_of s) turn

-- The same, or the event is for no open dialogue, and this is sent.
abbrev pub IsPlanOr : (s : ShardState) → (turn : Turn) → (sent : List Out) → Option Plan → Type 0
IsPlanOr s turn sent None = turn ≡ Dismissed sent
IsPlanOr s turn sent (Some plan) = IsPlan s turn plan

-- The plan of an expiry of a shard, if anything is due.
pub record IsExpiry (s : ShardState) (plan : Option Plan) : Type 0 where
  pub turn : Turn
  pub expiry : Expiry (state_of s) s.shard turn
  pub planned : IsPlanOr s turn [] plan
