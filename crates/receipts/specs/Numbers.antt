-- The numbers of jobs.
use Rattle.std.specs.Prelude.{ℕ, List, count_by, ◌==◌, ◌≤◌}

-- no number occurs twice
abbrev pub AreApart : List ℕ → Type 0
AreApart ns = (n : ℕ) → count_by (λ m. m == n) ns ≤ 1
