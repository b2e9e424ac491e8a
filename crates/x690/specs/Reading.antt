-- Reading an element under a tag: its contents if it has that tag, otherwise nothing (X.690, 8.1.1).
use Rattle.std.specs.Prelude.{ℕ, List, [], ◌∷◌, Option, Some, None, if◌then◌else◌, option_and_then}
use Rattle.x690.specs.declared.Tag.{Tag}
use Rattle.x690.specs.Tags.{same_tag}
use Rattle.x690.specs.Tree.{Tree, Primitive, Constructed, list_of}

abbrev pub tag_of : Tree → Tag
tag_of (Primitive tag contents) = tag
tag_of (Constructed tag children) = tag

-- the element, if it has this tag
abbrev pub tagged : Tag → Tree → Option Tree
tagged tag tree = if same_tag (tag_of tree) tag then Some tree else None

-- the contents of a primitive element with this tag
abbrev pub octets_of : Tag → Tree → Option (List ℕ)
octets_of tag (Primitive own contents) = if same_tag own tag then Some contents else None
octets_of tag (Constructed own children) = None

-- the children of a constructed element with this tag
abbrev pub children_of : Tag → Tree → Option (List Tree)
children_of tag (Primitive own contents) = None
children_of tag (Constructed own children) = if same_tag own tag then Some (list_of children) else None

-- the one member of a list
abbrev pub only : {A : Type 0} → List A → Option A
only [] = None
only (a ∷ []) = Some a
only (a ∷ b ∷ rest) = None

-- the one octet of a primitive element with this tag
abbrev pub octet_of : Tag → Tree → Option ℕ
octet_of tag tree = option_and_then only (octets_of tag tree)

-- the one child of a constructed element with this tag
abbrev pub only_child : Tag → Tree → Option Tree
only_child tag tree = option_and_then only (children_of tag tree)

-- all children, whatever the tag; a primitive element has none
abbrev pub children : Tree → List Tree
children (Primitive tag contents) = []
children (Constructed tag inner) = list_of inner
