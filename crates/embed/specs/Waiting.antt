-- The frames that wait, as a queue of the frames of each event.
use Rattle.std.specs.Prelude.{◌≡◌, ◌<◌, ℕ, List, [], ◌∷◌, length, drop}
use Rattle.std.specs.List.{AllByRecursion, flat_map}
use Rattle.frames.specs.Octets.{RawOut}

-- Of the first event so many frames were taken, and not all; each other event has some. If there is none, none was taken.
abbrev pub IsQueue : (taken : ℕ) → List (List RawOut) → Type 0
IsQueue taken [] = taken ≡ 0
IsQueue taken (first ∷ rest) = (taken < length first) × AllByRecursion (λ outs. 0 < length outs) rest

-- The frames that wait.
abbrev pub waiting_in : (taken : ℕ) → List (List RawOut) → List RawOut
waiting_in taken lists = drop taken (flat_map (λ outs. outs) lists)
