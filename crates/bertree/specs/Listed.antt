-- Entries that list whole elements: what is in an element stands after it, and its entry has the number of these entries.
use Rattle.std.specs.Prelude.{◌≡◌, ℕ, ◌≤◌, List, [], ◌∷◌, ◌++◌, length}
use Rattle.std.specs.Borrow.{Bor}
use Rattle.x690.specs.Tree.{Tree, Trees, Primitive, Constructed, Empty, More, trees, levels_of_all}
use Rattle.x690.specs.Spelling.{SpellsAll}
use Rattle.bertree.specs.declared.nodes.Entry.{Entry}
use Rattle.bertree.specs.declared.nodes.Entry.TheVariants as entry

abbrev mutual
  -- these entries, all of them, list the element
  pub IsListed : Tree → List Entry → Type 0
  IsListed (Primitive tag contents) entries =
      (octets : Bor (List ℕ)) × (octets.now ≡ contents) × (entries ≡ entry.Primitive tag octets ∷ [])
  IsListed (Constructed tag children) entries =
      (inside : List Entry) × AreListed children inside × (entries ≡ entry.Constructed tag (length inside) ∷ inside)

  -- these entries list the elements, one after the other
  pub AreListed : Trees → List Entry → Type 0
  AreListed Empty entries = entries ≡ []
  AreListed (More tree rest) entries =
      (front : List Entry) × (back : List Entry) × IsListed tree front × AreListed rest back × (entries ≡ front ++ back)

-- after the entries that were there are those of the elements that octets spell, of at most so many levels
pub record Adds (octets : List ℕ) (most : ℕ) (there entries : List Entry) : Type 0 where
  pub spelled : List Tree
  pub found : List Entry
  pub behind : entries ≡ there ++ found
  pub are_listed : AreListed (trees spelled) found
  pub are_spelled : SpellsAll octets (trees spelled)
  pub within : levels_of_all (trees spelled) ≤ most
