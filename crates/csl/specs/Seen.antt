-- Values of the code as values of the definitions.
use Rattle.std.specs.Prelude.{◌≡◌, ℕ, ℤ, refl}
use Rattle.machine.specs.Received.{ComponentOf}
use Rattle.machine.specs.State as state
use Rattle.q773_comp.specs.declared.component.Component.{Component}
use Rattle.q773_comp.specs.Seen.{component}
use Rattle.csl.specs.declared.was.Was.{Was}
use Rattle.csl.specs.declared.was.Was.TheVariants.{Sent, Waiting}

abbrev pub was : Was → state.Was
was Sent = state.OperationSent
was Waiting = state.WaitForReject

abbrev pub was_back : state.Was → Was
was_back state.OperationSent = Sent
was_back state.WaitForReject = Waiting

pub was_returns : (w : Was) → was_back (was w) ≡ w
was_returns Sent = refl
was_returns Waiting = refl

-- an own invocation
abbrev pub invocation_of : ℤ → Was → ℕ → state.Invocation
invocation_of id standing deadline = record { id = id; was = was standing; deadline = deadline }

-- a component with its parameter as it is
abbrev pub heard : {P : Type 0} → Component P → ComponentOf P
heard c = component (λ p. p) c

-- an own invocation as in a listing
abbrev pub told_of : state.Invocation → ℤ × Was × ℕ
told_of v = (v.id, was_back v.was, v.deadline)
