-- The invocations of the dialogue that an event names.
use Rattle.location.specs.declared.outcome.DialogueChange.{DialogueChange}
use Rattle.location.specs.declared.outcome.DialogueChange.TheVariants.{Closes, Opens, GoesOn, Forgets}

-- The procedure itself forgets no invocation.
abbrev pub ForgetsNothing : DialogueChange → Type 0
ForgetsNothing Closes = Unit {0}
ForgetsNothing (Opens opening) = Unit {0}
ForgetsNothing (GoesOn left) = Unit {0}
ForgetsNothing (Forgets invoke) = ⊥
