-- What is decided on a received Begin before its components are handled (profile).
use Rattle.std.specs.Prelude.{ℕ, List, [], ◌∷◌, Option, Some, None}
use Rattle.machine.specs.Received.{Component}
use Rattle.machine.specs.Sent.{Context, Why, NoCause, Refusing, SentAbort}
use Rattle.machine.specs.Contexts.{accepted, refused_name}
use Rattle.machine.specs.State.{Local}
use Rattle.machine.specs.Outcome.{Outcome, send, unchanged}
use Rattle.machine.specs.Begins.{begins_in}

-- The Begin starts in a context, or is answered with an Abort.
pub data Decision : Type 0 where
  Go : Context → Decision
  Refuse : Why → Decision

-- without a component it is refused
abbrev pub decision_in : Context → List Component → Decision
decision_in context [] = Refuse NoCause
decision_in context (c ∷ cs) = Go context

-- in a context in which a peer may not begin it is refused before that
abbrev pub decision_under : (name : List ℕ) → Option Context → List Component → Decision
decision_under name None components = Refuse (Refusing (refused_name name))
decision_under name (Some context) components = decision_in context components

-- and without a dialogue portion before that
abbrev pub decision : (name : Option (List ℕ)) → List Component → Decision
decision None components = Refuse NoCause
decision (Some name) components = decision_under name (accepted name) components

-- what the machine does then
abbrev pub begins_as : Decision → Local → (from origin : List ℕ) → List Component → (new : List ℕ) → Outcome
begins_as (Go context) here from origin components new = begins_in here from origin context components new
begins_as (Refuse why) here from origin components new = unchanged here (send from (SentAbort origin why))
