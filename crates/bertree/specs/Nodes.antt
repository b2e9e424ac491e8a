-- What lists of entries mean, wherever they are in memory: elements in a row.
use Rattle.std.specs.Prelude.{ℕ, zero, suc, List, [], ◌∷◌, length, take, drop}
use Rattle.x690.specs.Tree.{Tree, element}
use Rattle.x690.specs.Tree as x690
use Rattle.bertree.specs.declared.nodes.Entry.{Entry}
use Rattle.bertree.specs.declared.nodes.Entry.TheVariants as entry
use Rattle.bertree.specs.declared.nodes.Nodes.{Nodes}
use Rattle.bertree.specs.declared.node.Node.{Node}
use Rattle.bertree.specs.declared.node.Node.TheVariants.{Primitive, Constructed}

-- the first elements that entries list: so many of a constructed one's followers are in it, and then come the elements after it
abbrev pub first_listed : ℕ → List Entry → List Tree
first_listed zero entries = []
first_listed (suc n) [] = []
first_listed (suc n) (entry.Primitive tag octets ∷ entries) = x690.Primitive tag octets.now ∷ first_listed n entries
first_listed (suc n) (entry.Constructed tag inside ∷ entries) =
    element tag (first_listed n (take inside entries)) ∷ first_listed n (drop inside entries)

-- all of them: each has an entry
unfoldable pub listed : List Entry → List Tree
listed entries = first_listed (length entries) entries

-- elements in a row
unfoldable pub elements : Nodes → List Tree
elements nodes = listed nodes.entries.now

-- one element
unfoldable pub tree : Node → Tree
tree (Primitive tag octets) = x690.Primitive tag octets.now
tree (Constructed tag nodes) = element tag (elements nodes)
