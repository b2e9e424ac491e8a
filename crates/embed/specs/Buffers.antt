-- A text in a caller's buffer.
use Rattle.std.specs.Prelude.{◌≡◌, ◌++◌, ℕ, List, length, drop}

-- The text stands at the front of the buffer, and after it the buffer is as it was.
pub record Writes (text before : List ℕ) (count : ℕ) (after : List ℕ) : Type 0 where
  pub count_is : count ≡ length text
  pub room_is : after ≡ text ++ drop count before
  pub same_length : length after ≡ length before
