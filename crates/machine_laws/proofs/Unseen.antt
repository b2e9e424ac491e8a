-- A dialogue of another subscriber is not seen.
use Rattle.std.proofs.Common.{◌≡◌, ℕ, List, refl, Some, None}
use Rattle.machine.specs.Keys.{put}
use Rattle.machine.specs.State.{Dialogue, if_of}
use Rattle.machine_laws.proofs.Keys.{put_cases}

pub unseen : (x i : List ℕ) (d : Dialogue) → if_of x (Some d) ≡ None → (j : List ℕ) → if_of x (put (λ k. None) i (Some d) j) ≡ None
unseen x i d other j = put_cases (λ k. None) i (Some d) j (λ o. if_of x o ≡ None) (λ e. other) (λ e. refl)
