-- A component of the code as the one of the definitions.
use Rattle.std.specs.Prelude.{option_map}
use Rattle.x690.specs.Tree.{Tree}
use Rattle.machine.specs.Received as received
use Rattle.machine.specs.Sent as sent
use Rattle.bertree.specs.declared.node.Node.{Node}
use Rattle.bertree.specs.Nodes.{tree}
use Rattle.q773_comp.specs.declared.component.Code.{Code}
use Rattle.q773_comp.specs.declared.component.Code.TheVariants.{Number, Other}
use Rattle.q773_comp.specs.declared.component.Side.{Side}
use Rattle.q773_comp.specs.declared.component.Side.TheVariants.{General, OfInvoke, OfResult, OfError}
use Rattle.q773_comp.specs.declared.component.Component.{Component}
use Rattle.q773_comp.specs.declared.component.Component.TheVariants.{Invoke, ResultLast, ResultNotLast, ReturnError, Reject, Bad, Ignored}
use Rattle.q773_comp.specs.declared.sending.Rejection.{Rejection}

abbrev pub code : Code → received.Code
code (Number n) = received.Number n
code Other = received.Other

abbrev pub side : Side → received.Side
side General = received.General
side OfInvoke = received.OfInvoke
side OfResult = received.OfResult
side OfError = received.OfError

-- a component, with a parameter of the definitions in place of the code's
abbrev pub component : {P Q : Type 0} → (P → Q) → Component P → received.ComponentOf Q
component parameter (Invoke id linked operation p) = received.Invoke id linked (code operation) (option_map parameter p)
component parameter (ResultLast id) = received.ResultLast id
component parameter (ResultNotLast id) = received.ResultNotLast id
component parameter (ReturnError id error) = received.ReturnError id (code error)
component parameter (Reject id of problem) = received.Reject id (side of) problem
component parameter (Bad id problem) = received.Bad id problem
component parameter Ignored = received.Ignored

-- a component with a node as its parameter, as the one with the node's tree
abbrev pub seen : Component Node → received.ComponentOf Tree
seen c = component tree c

abbrev pub rejection : Rejection → sent.Rejection
rejection r = record { id = r.id; side = side r.side; problem = r.problem }
