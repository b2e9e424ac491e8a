-- Trees of elements (X.690, 8.1.1).
use Rattle.std.specs.Prelude.{ℕ, ◌+◌, true, false, List, [], ◌∷◌, max}
use Rattle.octets.specs.Octets.{AreOctets}
use Rattle.x690.specs.Identifier.{IsTag}
use Rattle.x690.specs.declared.Tag.{Tag}

-- An element is primitive, with octets as its contents, or constructed, with elements.
mutual
  pub data Tree : Type 0 where
    Primitive : Tag → List ℕ → Tree
    Constructed : Tag → Trees → Tree

  pub data Trees : Type 0 where
    Empty : Trees
    More : Tree → Trees → Trees

-- the elements as a list, and back
abbrev pub list_of : Trees → List Tree
list_of Empty = []
list_of (More tree rest) = tree ∷ list_of rest

abbrev pub trees : List Tree → Trees
trees [] = Empty
trees (tree ∷ rest) = More tree (trees rest)

-- the constructed element with these children
abbrev pub element : Tag → List Tree → Tree
element tag children = Constructed tag (trees children)

-- the number of levels: an element with no element in it has one
abbrev mutual
  pub levels : Tree → ℕ
  levels (Primitive tag contents) = 1
  levels (Constructed tag children) = 1 + levels_of_all children

  pub levels_of_all : Trees → ℕ
  levels_of_all Empty = 0
  levels_of_all (More tree rest) = max (levels tree) (levels_of_all rest)

-- each tag is one that an element can have
abbrev mutual
  pub HasTags : Tree → Type 0
  HasTags (Primitive tag contents) = IsTag false tag
  HasTags (Constructed tag children) = IsTag true tag × AllHaveTags children

  pub AllHaveTags : Trees → Type 0
  AllHaveTags Empty = Unit {0}
  AllHaveTags (More tree rest) = HasTags tree × AllHaveTags rest

-- all contents are octets
abbrev mutual
  pub HasOctets : Tree → Type 0
  HasOctets (Primitive tag contents) = AreOctets contents
  HasOctets (Constructed tag children) = AllHaveOctets children

  pub AllHaveOctets : Trees → Type 0
  AllHaveOctets Empty = Unit {0}
  AllHaveOctets (More tree rest) = HasOctets tree × AllHaveOctets rest
