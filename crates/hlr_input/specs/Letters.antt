-- The local ids that the letters of a script stand for (profile).
use Rattle.std.specs.Prelude.{ℕ, ◌-◌, ◌==◌, ◌||◌, ◌&&◌, nat_lt, nat_le, nat_eq, Bool, List, [], ◌∷◌, ◌++◌, length, take, drop, slice_index, Option, Some, None, if◌then◌else◌}
use Rattle.std.specs.List.{list_any}
use Rattle.std.specs.Cmp.Lexicographic.{pointwise}
use Rattle.x690.specs.Identifier.{leading}
use Rattle.x690.specs.declared.Tag.{Tag}
use Rattle.frames.specs.declared.tags.TheConstants.{BEGIN, CONTINUE, ORIGIN}

-- Whether two ids have the same octets.
abbrev pub is_same : List ℕ → List ℕ → Bool
is_same = pointwise nat_eq

-- The first 26 different ids, in their order.
abbrev pub noted : List (List ℕ) → Option (List ℕ) → List (List ℕ)
noted ids None = ids
noted ids (Some id) =
    if list_any (λ i. is_same i id) ids then ids else if nat_lt (length ids) 26 then ids ++ id ∷ [] else ids

-- Whether an octet is the identifier octet of this tag, whose number is at most 30 (X.690, 8.1.2).
abbrev pub is_identifier : Tag → ℕ → Bool
is_identifier tag octet = octet == leading tag tag.number

-- The originating transaction id at the front of a message's contents (Q.773), if it has four octets: `48 04` and the id.
abbrev pub id_in : List ℕ → Option (List ℕ)
id_in contents =
    if nat_le 6 (length contents) && is_identifier ORIGIN (slice_index contents 0) && (slice_index contents 1 == 4)
    then Some (take 4 (drop 2 contents)) else None

-- The number of length octets after the first one (X.690, 8.1.3).
abbrev pub further_length_octets : ℕ → ℕ
further_length_octets first = if nat_lt first 128 then 0 else first - 128

-- The originating transaction id of a Begin (62) or a Continue (65) (Q.773), if it has four octets.
abbrev pub originating_id : List ℕ → Option (List ℕ)
originating_id [] = None
originating_id (tag ∷ []) = None
originating_id (tag ∷ first ∷ rest) =
    if is_identifier BEGIN tag || is_identifier CONTINUE tag
    then (if nat_le (further_length_octets first) (length rest) then id_in (drop (further_length_octets first) rest) else None)
    else None
