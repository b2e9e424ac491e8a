-- Lists that are built piece by piece, and texts that are written so.
use Rattle.std.proofs.Common.{◌≡◌, ℕ, ◌+◌, ◌<◌, List, [], ◌∷◌, ◌++◌, length, map, take, get_or, sym, ap, ◌∙◌, append_assoc}
use Rattle.std.specs.List.{flat_map}
use Rattle.std.proofs.lemmas.List.{append-nil, map-append, take_more}

flat_map-push : {X Y : Type 0} (f : X → List Y) (xs : List X) (x : X) → flat_map f (xs ++ x ∷ []) ≡ flat_map f xs ++ f x
flat_map-push f [] x = append-nil (f x)
flat_map-push f (y ∷ ys) x = ap (λ (t : List _). f y ++ t) (flat_map-push f ys x) ∙ sym (append_assoc (f y) (flat_map f ys) (f x))

-- one more item of a list to which f is applied item by item
pub one_more : {X Y : Type 0} (f : X → List Y) (xs : List X) (i : ℕ) (x : X) (old so_far new : List Y) → i < length xs → x ≡ get_or xs i x
    → so_far ≡ old ++ flat_map f (take i xs)
    → new ≡ so_far ++ f x → new ≡ old ++ flat_map f (take (i + 1) xs)
one_more f xs i x old so_far new lt is before more =
    more ∙ ap (λ (t : List _). t ++ f x) before ∙ append_assoc old (flat_map f (take i xs)) (f x)
    ∙ ap (λ (t : List _). old ++ t)
    (sym (flat_map-push f (take i xs) x) ∙ ap (λ (ys : List _). flat_map f (take i xs ++ ys)) (ap (λ (y : _). y ∷ []) is)
    ∙ ap (flat_map f) (sym (take_more xs i x lt)))

-- the same for items seen through a function
pub seen_more : {W X Y : Type 0} (see : W → X) (f : X → List Y) (ws : List W) (i : ℕ) (w : W) (old so_far new : List Y) → i < length ws
    → w ≡ get_or ws i w
    → so_far ≡ old ++ flat_map f (map see (take i ws)) → new ≡ so_far ++ f (see w) → new ≡ old ++ flat_map f (map see (take (i + 1) ws))
seen_more see f ws i w old so_far new lt is before more =
    more ∙ ap (λ (t : List _). t ++ f (see w)) before ∙ append_assoc old (flat_map f (map see (take i ws))) (f (see w))
    ∙ ap (λ (t : List _). old ++ t)
    (sym (flat_map-push f (map see (take i ws)) (see w))
    ∙ ap (flat_map f) (sym (map-append see (take i ws) (w ∷ []))
    ∙ ap (map see) (ap (λ (y : _). take i ws ++ y ∷ []) is ∙ sym (take_more ws i w lt))))

-- ---- lists that are gathered shard by shard

-- what one more item adds
pub gathered_more : {X Y : Type 0} (f : X → List Y) (xs : List X) (i : ℕ) (x : X) (so_far new : List Y) → i < length xs → x ≡ get_or xs i x
    → so_far ≡ flat_map f (take i xs)
    → new ≡ so_far ++ f x → new ≡ flat_map f (take (i + 1) xs)
gathered_more f xs i x so_far new lt is before more = one_more f xs i x [] so_far new lt is before more

-- ---- two pieces

pub first_then : (old first more one two : List ℕ) → one ≡ old ++ first → two ≡ one ++ more → two ≡ old ++ (first ++ more)
first_then old first more one two e f = f ∙ ap (λ (t : List ℕ). t ++ more) e ∙ append_assoc old first more
