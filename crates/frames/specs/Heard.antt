-- The components as the machine hears them: with an Invoke's parameter read by its operation.
use Rattle.std.specs.Prelude.{List, [], ◌∷◌, Some, None, option_map, map}
use Rattle.x690.specs.Tree.{Tree}
use Rattle.machine.specs.Received.{ComponentOf, Component, Invoke, ResultLast, ResultNotLast, ReturnError, Reject, Bad, Ignored}
use Rattle.frames.specs.Components.{component_of}
use Rattle.frames.specs.ComponentForms.{IsComponent}
use Rattle.frames.specs.Arguments.{parameter_of}
use Rattle.frames.specs.ArgumentForms.{IsParameter}

-- ---- the reading

abbrev pub heard : ComponentOf Tree → Component
heard (Invoke id linked code parameter) = Invoke id linked code (option_map (parameter_of code) parameter)
heard (ResultLast id) = ResultLast id
heard (ResultNotLast id) = ResultNotLast id
heard (ReturnError id code) = ReturnError id code
heard (Reject id side problem) = Reject id side problem
heard (Bad id problem) = Bad id problem
heard Ignored = Ignored

-- the component that a tree is
abbrev pub heard_of : Tree → Component
heard_of t = heard (component_of t)

abbrev pub all_heard : List Tree → List Component
all_heard ts = map heard_of ts

-- ---- the form

-- The tree is heard as this component.
abbrev pub IsHeard : Tree → Component → Type 0
IsHeard t (Invoke id linked code None) = IsComponent t (Invoke id linked code None)
IsHeard t (Invoke id linked code (Some parameter)) = (p : Tree) × IsComponent t (Invoke id linked code (Some p)) × IsParameter code p parameter
IsHeard t (ResultLast id) = IsComponent t (ResultLast id)
IsHeard t (ResultNotLast id) = IsComponent t (ResultNotLast id)
IsHeard t (ReturnError id code) = IsComponent t (ReturnError id code)
IsHeard t (Reject id side problem) = IsComponent t (Reject id side problem)
IsHeard t (Bad id problem) = IsComponent t (Bad id problem)
IsHeard t Ignored = IsComponent t Ignored

-- one by one, in order
abbrev pub AreHeard : List Tree → List Component → Type 0
AreHeard [] [] = Unit {0}
AreHeard (t ∷ ts) (c ∷ cs) = IsHeard t c × AreHeard ts cs
AreHeard [] (c ∷ cs) = ⊥
AreHeard (t ∷ ts) [] = ⊥
