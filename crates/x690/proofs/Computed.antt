-- The worked examples of the encoding rules.
use Rattle.std.proofs.Common.{ℕ, ◌<◌, true, false, refl, inl, inr, [], ◌∷◌, arith}
use Rattle.std.proofs.lemmas.Bool.{both_ways, ltb-true, leb-true}
use Rattle.x690.specs.Identifier.{IsTag, identifier, number_octets}
use Rattle.x690.specs.Length.{IsLength, length_octets}
use Rattle.x690.specs.Spelling.{SpellsAll}
use Rattle.x690.specs.Tree.{Primitive, Empty, More}
use Rattle.x690.specs.declared.Class.TheVariants.{Universal}
use Rattle.x690.specs.Examples as example
use Rattle.x690.specs.Examples.{tag_with}

pub identifiers : example.Identifiers
unfolding identifier number_octets
identifiers = record {
  integer = refl;
  sequence = refl;
  begin = refl;
  user_information = refl;
  private = refl;
  one_octet = refl;
  two_octets = refl;
  three_octets = refl;
  four_octets = refl;
  greatest = refl;
}

pub tags_of_elements : example.TagsOfElements
tags_of_elements = record {
  greatest = record { kind = refl; small = ltb-true _ _ refl; no_end = ltb-true _ _ refl };
  no_greater = λ h. let small = h.small in omega arith;
  end_mark = λ h. let no_end = h.no_end in omega arith;
  constructed_zero = record { kind = refl; small = ltb-true _ _ refl; no_end = ltb-true _ _ refl };
  other_kind = λ h. both_ways true h.kind refl;
}

-- the short form of this length
short_is : (n : ℕ) → n < 128 → IsLength (n ∷ []) n
short_is n small = inl (small, refl, refl)

pub lengths : example.Lengths
unfolding length_octets
lengths = record {
  none = refl;
  short = refl;
  one_octet = refl;
  most_of_one = refl;
  two_octets = refl;
  three_octets = refl;
  four_octets = refl;
  not_the_fewest = inr (leb-true _ _ refl, leb-true _ _ refl, refl, refl);
  five_octets = five;
  indefinite = open_form;
  octet_after = after;
}
  where
    five : (n : ℕ) → IsLength (0x85 ∷ 0x00 ∷ 0x00 ∷ 0x00 ∷ 0x00 ∷ 0x06 ∷ []) n → ⊥
    five n (inl (small, empty, same)) = omega arith
    five n (inr (some, most, is, same)) = omega arith

    open_form : (n : ℕ) → IsLength (0x80 ∷ []) n → ⊥
    open_form n (inl (small, empty, same)) = omega arith
    open_form n (inr (some, most, is, same)) = omega arith

    after : (n : ℕ) → IsLength (0x06 ∷ 0x06 ∷ []) n → ⊥
    after n (inl (small, empty, same)) = absurd (cc empty)
    after n (inr (some, most, is, same)) = omega arith

-- the tags of the tree
sequence : IsTag true (tag_with Universal true 16)
sequence = record { kind = refl; small = ltb-true _ _ refl; no_end = ltb-true _ _ refl }

integer : IsTag false (tag_with Universal false 2)
integer = record { kind = refl; small = ltb-true _ _ refl; no_end = ltb-true _ _ refl }

-- its one element, with its length in the short and in the long form
one : SpellsAll (0x02 ∷ 0x01 ∷ 0x05 ∷ []) (More (Primitive (tag_with Universal false 2) (5 ∷ [])) Empty)
unfolding identifier
one = (0x02 ∷ 0x01 ∷ 0x05 ∷ [], [], (integer, (0x01 ∷ [], short_is 1 (ltb-true _ _ refl), refl)), refl, refl)

one_long : SpellsAll (0x02 ∷ 0x81 ∷ 0x01 ∷ 0x05 ∷ []) (More (Primitive (tag_with Universal false 2) (5 ∷ [])) Empty)
unfolding identifier
one_long = (0x02 ∷ 0x81 ∷ 0x01 ∷ 0x05 ∷ [], [], (integer, (0x81 ∷ 0x01 ∷ [], inr (leb-true _ _ refl, leb-true _ _ refl, refl, refl), refl)), refl, refl)

pub spellings_of_one_tree : example.SpellingsOfOneTree
unfolding identifier number_octets length_octets
spellings_of_one_tree = record {
  sent = refl;
  definite = (sequence, 0x02 ∷ 0x01 ∷ 0x05 ∷ [], one, inl (0x03 ∷ [], short_is 3 (ltb-true _ _ refl), refl));
  long = (sequence, 0x02 ∷ 0x81 ∷ 0x01 ∷ 0x05 ∷ [], one_long, inl (0x81 ∷ 0x04 ∷ [], inr (leb-true _ _ refl, leb-true _ _ refl, refl, refl), refl));
  indefinite = (sequence, 0x02 ∷ 0x01 ∷ 0x05 ∷ [], one, inr refl);
}
