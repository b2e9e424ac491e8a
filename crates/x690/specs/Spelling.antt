-- How octets spell a tree (X.690, 8.1), and the spelling that is sent.
use Rattle.std.specs.Prelude.{◌≡◌, ℕ, ◌⊎◌, true, false, List, [], ◌∷◌, ◌++◌, length}
use Rattle.x690.specs.Identifier.{IsTag, identifier}
use Rattle.x690.specs.Length.{IsLength, length_octets}
use Rattle.x690.specs.Tree.{Tree, Trees, Primitive, Constructed, Empty, More}
use Rattle.x690.specs.declared.Tag.{Tag}

-- the definite form: the length octets say how many octets the contents have (8.1.3.3)
abbrev pub Definite : List ℕ → Tag → List ℕ → Type 0
Definite octets tag contents =
    (size : List ℕ) × IsLength size (length contents) × (octets ≡ identifier tag ++ (size ++ contents))

-- the indefinite form: 80, and the contents end with the end-of-contents octets 00 00 (8.1.3.6, 8.1.5)
abbrev pub Indefinite : List ℕ → Tag → List ℕ → Type 0
Indefinite octets tag contents = octets ≡ identifier tag ++ 128 ∷ (contents ++ 0 ∷ 0 ∷ [])

-- A primitive element has its contents in the definite form, a constructed one the spellings of its elements in either form
-- (8.1.3.2).
abbrev mutual
  -- these octets, all of them, spell the tree
  pub Spells : List ℕ → Tree → Type 0
  Spells octets (Primitive tag contents) = IsTag false tag × Definite octets tag contents
  Spells octets (Constructed tag children) =
      IsTag true tag
      × (contents : List ℕ) × SpellsAll contents children × (Definite octets tag contents ⊎ Indefinite octets tag contents)

  -- these octets are spellings of the trees, one after the other
  pub SpellsAll : List ℕ → Trees → Type 0
  SpellsAll octets Empty = octets ≡ []
  SpellsAll octets (More tree trees) =
      (front : List ℕ) × (back : List ℕ) × Spells front tree × SpellsAll back trees × (octets ≡ front ++ back)

-- the same with definite lengths alone
abbrev mutual
  pub SpellsDefinitely : List ℕ → Tree → Type 0
  SpellsDefinitely octets (Primitive tag contents) = Definite octets tag contents
  SpellsDefinitely octets (Constructed tag children) =
      (contents : List ℕ) × AllSpellDefinitely contents children × Definite octets tag contents

  pub AllSpellDefinitely : List ℕ → Trees → Type 0
  AllSpellDefinitely octets Empty = octets ≡ []
  AllSpellDefinitely octets (More tree trees) =
      (front : List ℕ) × (back : List ℕ) × SpellsDefinitely front tree × AllSpellDefinitely back trees × (octets ≡ front ++ back)

-- an element in the definite form, its length in the fewest octets
abbrev pub definite : Tag → List ℕ → List ℕ
definite tag contents = identifier tag ++ (length_octets (length contents) ++ contents)

-- the spelling that is sent: definite lengths in the fewest octets (profile; as 10.1 requires in the distinguished rules)
abbrev mutual
  pub enc : Tree → List ℕ
  enc (Primitive tag contents) = definite tag contents
  enc (Constructed tag children) = definite tag (enc_all children)

  pub enc_all : Trees → List ℕ
  enc_all Empty = []
  enc_all (More tree trees) = enc tree ++ enc_all trees
