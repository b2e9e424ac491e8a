-- The forms of several components.
use Rattle.std.specs.Prelude.{List, [], ◌∷◌}
use Rattle.x690.specs.Tree.{Tree}
use Rattle.machine.specs.Received.{ComponentOf}
use Rattle.frames.specs.ComponentForms.{IsComponent}

-- The trees are these components, one by one, in order.
abbrev pub AreRead : List Tree → List (ComponentOf Tree) → Type 0
AreRead [] [] = Unit {0}
AreRead (t ∷ ts) (c ∷ cs) = IsComponent t c × AreRead ts cs
AreRead [] (c ∷ cs) = ⊥
AreRead (t ∷ ts) [] = ⊥
