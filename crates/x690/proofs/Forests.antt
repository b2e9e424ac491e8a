-- The elements of an element, as a list.
use Rattle.std.proofs.Common.{◌≡◌, List, [], ◌∷◌, refl, ap}
use Rattle.x690.specs.Tree.{Tree, Trees, Empty, More, trees, list_of}

pub trees-list_of : (ts : Trees) → trees (list_of ts) ≡ ts
trees-list_of Empty = refl
trees-list_of (More t ts) = ap (More t) (trees-list_of ts)

pub list_of-trees : (ts : List Tree) → list_of (trees ts) ≡ ts
list_of-trees [] = refl
list_of-trees (t ∷ ts) = ap (λ xs. t ∷ xs) (list_of-trees ts)
