use Rattle.std.proofs.Common.{[], ◌∷◌, ◌∙◌, ◌++◌, ap, sym, arith, length}
use Rattle.std.proofs.lemmas.Result.{on_ok_weaker}
use Rattle.x690.specs.Identifier.{identifier}
use Rattle.berwrite.specs.OwnTrees.{own}
use Rattle.berwrite.proofs.Own.{contents-primitive, contents-constructed, all-written, written, placed}
use Rattle.berwrite.proofs.write.+put.Goals as goal

pub returns-in_ok-extend_from_slice-in-Primitive : goal.returns-in_ok-extend_from_slice-in-Primitive
returns-in_ok-extend_from_slice-in-Primitive g t c =
    let same = contents-primitive c.args.tree.now _ _ c.in-Primitive.is in
    let tag = ap (λ x. c.args.out.now.items ++ identifier x) c.tag.ensures in
    written (own c.args.tree.now) _ _ _ _ _ (c.in_ok-put_identifier.ensures ∙ tag) c.in_ok-put_length-in-Primitive.ensures
    (ap length (sym same))
    (c.in_ok-extend_from_slice-in-Primitive.ensures.items ∙ ap (λ xs. c.put_length.new.out.items ++ xs) (sym same))

pub returns-after-loop-child : goal.returns-after-loop-child
returns-after-loop-child g t c =
    let same = contents-constructed c.args.tree.now _ _ c.in-Constructed.is in
    let tag = ap (λ x. c.args.out.now.items ++ identifier x) c.tag.ensures in
    let children = all-written _ _ _ _ c.loop-child-test.false c.loop-child.invariant in
    on_ok_weaker c.set_length.result
    (placed (own c.args.tree.now) _ _ _ _ _ (c.in_ok-put_identifier.ensures ∙ tag)
    (omega (arith, c.len-place.ensures, c.put_identifier.new.out.ok.0))
    (children ∙ rw c.in_ok-push-in-Constructed.ensures.items (ap (λ xs. (c.put_identifier.new.out.items ++ 0 ∷ []) ++ xs)
    (sym same))))
    c.set_length.ensures
