-- A text as parts between separators, and as lines.
use Rattle.std.specs.Prelude.{ℕ, ◌==◌, List, [], ◌∷◌, length, Option, None, Some, if◌then◌else◌}
use Rattle.std.specs.List.{slice_split}

-- The parts of a text between separators; there is at least one, which may be empty.
abbrev pub parts : ℕ → List ℕ → List (List ℕ)
parts separator written = slice_split (λ octet. octet == separator) written

-- The parts left after a cut.
abbrev pub parts_left : ℕ → Option (List ℕ) → List (List ℕ)
parts_left separator None = []
parts_left separator (Some rest) = parts separator rest

abbrev pub without_empty_last : List (List ℕ) → List (List ℕ)
without_empty_last [] = []
without_empty_last (x ∷ []) = if length x == 0 then [] else x ∷ []
without_empty_last (x ∷ y ∷ ys) = x ∷ without_empty_last (y ∷ ys)

-- The lines of a text: each is ended by a line feed, which the last may lack.
unfoldable pub lines : List ℕ → List (List ℕ)
lines written = without_empty_last (parts 10 written)
