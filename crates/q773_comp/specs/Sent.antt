-- The tree of a component that is sent.
use Rattle.std.specs.Prelude.{option_map}
use Rattle.x690.specs.Tree.{Tree}
use Rattle.frames.specs.SentTrees.{invoke_tree, result_tree, empty_result_tree, error_tree, reject_tree}
use Rattle.berwrite.specs.OwnTrees.{own}
use Rattle.q773_comp.specs.declared.sending.OutComponent.{OutComponent}
use Rattle.q773_comp.specs.declared.sending.OutComponent.TheVariants.{Invoke, ResultLast, EmptyResult, ReturnError, Reject}
use Rattle.q773_comp.specs.Seen.{rejection}

abbrev pub out_tree : OutComponent → Tree
out_tree (Invoke id operation parameter) = invoke_tree id operation (own parameter)
out_tree (ResultLast id operation parameter) = result_tree id operation (own parameter)
out_tree (EmptyResult id) = empty_result_tree id
out_tree (ReturnError id error parameter) = error_tree id error (option_map own parameter)
out_tree (Reject r) = reject_tree (rejection r)
