-- How digits and octets are ordered and compared.
use Rattle.std.specs.Prelude.{ℕ, List}
use Rattle.std.specs.declared.cmp.Ordering.{Ordering}
use Rattle.std.specs.Ordering.{nat_cmp}
use Rattle.std.specs.Cmp.Lexicographic.{slice_cmp}

-- The order of texts: by the first place where two differ; a prefix comes before the longer text.
abbrev pub octets_cmp : List ℕ → List ℕ → Ordering
octets_cmp = slice_cmp nat_cmp
