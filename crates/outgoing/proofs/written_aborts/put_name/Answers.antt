use Rattle.std.proofs.Common.{[], ◌∷◌}
use Rattle.x690.specs.Tree.{Primitive}
use Rattle.frames.specs.declared.tags.TheConstants.{OBJECT_IDENTIFIER}
use Rattle.outgoing.proofs.Elements.{size_behind}
use Rattle.outgoing.proofs.written_aborts.put_name.Goals as goal

pub returns : goal.returns
returns c = λ behind same.
    c.wrap.ensures (Primitive OBJECT_IDENTIFIER c.args.name.now ∷ []) behind (c.in_ok-put_primitive.ensures behind same)
    (size_behind _ _ behind c.len-kept.ensures same)
