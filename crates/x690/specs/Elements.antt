-- The elements of a SEQUENCE, read from the first on (X.690, 8.9): a component that must come next, one that may be absent
-- (8.9.3, OPTIONAL), and the end.
use Rattle.std.specs.Prelude.{List, [], ◌∷◌, Option, Some, None, option_map}
use Rattle.x690.specs.Tree.{Tree}

-- required: the first element, read so, and the elements after it
abbrev pub first : {A : Type 0} → (Tree → Option A) → List Tree → Option (A × List Tree)
first read [] = None
first read (tree ∷ rest) = option_map (λ value. (value, rest)) (read tree)

-- what was found and the elements after it, or nothing and all the elements
abbrev pub or_all : {A : Type 0} → List Tree → Option (A × List Tree) → Option A × List Tree
or_all elements None = (None, elements)
or_all elements (Some found) = (Some found.0, found.1)

-- optional: the first element, if it reads so, and the elements after it
abbrev pub optional : {A : Type 0} → (Tree → Option A) → List Tree → Option A × List Tree
optional read elements = or_all elements (first read elements)

-- at most one: no element or one, and nothing after it
abbrev pub at_most_one : List Tree → Option (Option Tree)
at_most_one [] = Some None
at_most_one (tree ∷ []) = Some (Some tree)
at_most_one (tree ∷ next ∷ rest) = None

-- no more: what was read, if no element is left
abbrev pub no_more : {A : Type 0} → A → List Tree → Option A
no_more value [] = Some value
no_more value (tree ∷ rest) = None
