use Rattle.std.proofs.Common.{◌≡◌, [], ◌∷◌, subst, rules, OnOk, to_z, of_z, w8}
use Rattle.x690.specs.Tree.{Primitive}
use Rattle.machine.specs.declared.numbers.TheConstants.{PURGE_MS}
use Rattle.frames.specs.SentTrees.{result_tree, purge_result_tree}
use Rattle.frames.specs.declared.tags.TheConstants.{FREEZE_TMSI}
use Rattle.outgoing.specs.Spelled.{spelled}
use Rattle.outgoing.proofs.Elements.{size_behind}
use Rattle.outgoing.proofs.written_components.put_frozen.Goals as goal

pub returns : goal.returns
returns c = λ behind same.
    let same_id : to_z w8 (of_z w8 c.args.id) ≡ c.args.id = search rules in
    let size = size_behind _ _ behind c.len-kept.ensures same in
    let two = c.in_ok-wrap.ensures (Primitive FREEZE_TMSI [] ∷ []) behind (c.in_ok-put_primitive.ensures behind same) size in
    subst (λ i. OnOk c.put_result_last.result (c.put_result_last.new.buffer ≡ spelled (result_tree i PURGE_MS purge_result_tree ∷ behind))) same_id
    (c.put_result_last.ensures purge_result_tree behind two size)
