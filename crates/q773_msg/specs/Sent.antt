-- What is sent, as the tree that it is.
use Rattle.x690.specs.Tree.{Tree}
use Rattle.berwrite.specs.OwnTrees.{own}
use Rattle.q773_msg.specs.declared.out.OutMessage.{OutMessage}

abbrev pub message_tree : OutMessage → Tree
message_tree m = own m.tree
