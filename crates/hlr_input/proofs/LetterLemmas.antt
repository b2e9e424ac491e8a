-- Noting an id.
use Rattle.std.proofs.Common.{◌≡◌, ℕ, ◌<◌, true, false, List, [], ◌∷◌, ◌++◌, length, refl}
use Rattle.std.specs.Prelude.{Option, Some, nat_lt}
use Rattle.std.specs.List.{list_any}
use Rattle.std.proofs.lemmas.Bool.{lt-ltb}
use Rattle.hlr_input.specs.Letters.{noted, is_same}

pub noted_among : (ids : List (List ℕ)) (id : List ℕ) (found : Option (List ℕ)) → Some id ≡ found → list_any (λ i. is_same i id) ids ≡ true
    → ids ≡ noted ids found
noted_among ids id found is among = rw (← is, among) refl

pub noted_new : (ids : List (List ℕ)) (id : List ℕ) (found : Option (List ℕ)) → Some id ≡ found → list_any (λ i. is_same i id) ids ≡ false → length ids < 26
    → ids ++ id ∷ [] ≡ noted ids found
noted_new ids id found is new room = let few : nat_lt (length ids) 26 ≡ true = lt-ltb (length ids) 26 room in rw (← is, new, few) refl
