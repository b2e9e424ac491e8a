-- The octets of a frame, as written in a script (profile).
use Rattle.std.specs.Prelude.{◌≡◌, ℕ, ◌+◌, ◌<◌, ◌&&◌, Bool, true, nat_lt, List, [], ◌∷◌, ◌++◌, Option, Some, None, option_map, option_and_then, slice_get, codes as text}
use Rattle.records.specs.Spelling.{IsCode}
use Rattle.hlr_input.specs.declared.group.Group.{Group}
use Rattle.hlr_input.specs.declared.group.Group.TheVariants.{Octet, Letter}

-- The two characters of a group: an octet in hexadecimal digits, or `$` and a letter from A to Z.
abbrev pub IsGroup : List ℕ → Group → Type 0
IsGroup pair (Octet octet) = IsCode pair octet
IsGroup pair (Letter place) = (pair ≡ 36 ∷ (65 + place) ∷ []) × (place < 26)

-- The text is these groups, one after another.
abbrev pub AreGroups : List ℕ → List Group → Type 0
AreGroups [] [] = Unit {0}
AreGroups (a ∷ b ∷ more) (group ∷ groups) = IsGroup (a ∷ b ∷ []) group × AreGroups more groups
AreGroups _ _ = ⊥

-- `-` for a frame without octets, otherwise one group or more.
abbrev pub IsOctets : List ℕ → List Group → Type 0
IsOctets written [] = written ≡ text "-"
IsOctets written (group ∷ groups) = AreGroups written (group ∷ groups)

-- ---- what they stand for

-- The ids of letters: those that are passed, or none.
abbrev pub ids_in : Option (List (List ℕ)) → List (List ℕ)
ids_in None = []
ids_in (Some ids) = ids

-- The octets of a group, if the letters stand for these ids in order.
abbrev pub octets_of_group : List (List ℕ) → Group → Option (List ℕ)
octets_of_group ids (Octet octet) = Some (octet ∷ [])
octets_of_group ids (Letter place) = slice_get ids place

-- The octets of the frame; none if a letter has no id.
abbrev pub octets_of : List (List ℕ) → List Group → Option (List ℕ)
octets_of ids [] = Some []
octets_of ids (group ∷ groups) =
    option_and_then (λ front. option_map (λ rest. front ++ rest) (octets_of ids groups)) (octets_of_group ids group)

-- Whether the group is no letter, or one of the first n.
abbrev pub is_known : ℕ → Group → Bool
is_known known (Octet octet) = true
is_known known (Letter place) = nat_lt place known

-- Whether each letter is one of the first n.
abbrev pub are_known : ℕ → List Group → Bool
are_known known [] = true
are_known known (group ∷ groups) = is_known known group && are_known known groups
