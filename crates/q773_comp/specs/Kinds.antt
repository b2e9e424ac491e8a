-- What is read after the id of each kind of component.
use Rattle.std.specs.Prelude.{ℤ, List, Option}
use Rattle.x690.specs.Tree.{Tree}
use Rattle.machine.specs.Received as received
use Rattle.machine.specs.Received.{ComponentOf}
use Rattle.frames.specs.Components.{invoke, outcome, error}
use Rattle.q773_comp.specs.declared.component.Kind.{Kind}
use Rattle.q773_comp.specs.declared.component.Kind.TheVariants.{Invoke, ResultLast, ResultNotLast, ReturnError}

abbrev pub body_of : Kind → ℤ → List Tree → Option (ComponentOf Tree)
body_of Invoke = invoke
body_of ResultLast = λ id. outcome (received.ResultLast id)
body_of ResultNotLast = λ id. outcome (received.ResultNotLast id)
body_of ReturnError = error
