-- A tree that is sent as the tree that it is, wherever it is in memory.
use Rattle.std.specs.Prelude.{List, map}
use Rattle.x690.specs.Tree.{Tree, element}
use Rattle.x690.specs.Tree as x690
use Rattle.berwrite.specs.declared.own_tree.OwnTree.{OwnTree}
use Rattle.berwrite.specs.declared.own_tree.OwnTree.TheOpen.{OwnTree-F, Primitive, Constructed}
use Rattle.berwrite.specs.declared.own_tree.OwnTree.TheFolds.{fold-OwnTree}

-- one element, with the tree of each child in its place
abbrev pub own_step : OwnTree-F Tree → Tree
own_step (Primitive tag octets) = x690.Primitive tag octets.now
own_step (Constructed tag children) = element tag children.now

unfoldable pub own : OwnTree → Tree
own = fold-OwnTree Tree own_step

-- the trees of several elements
abbrev pub owns : List OwnTree → List Tree
owns trees = map own trees
