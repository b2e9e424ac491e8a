use Rattle.std.proofs.Common.{[], ◌∷◌}
use Rattle.x690.specs.Tree.{Primitive}
use Rattle.frames.specs.declared.numbers.TheConstants.{REJECT_PERMANENT}
use Rattle.frames.specs.declared.tags.TheConstants.{INTEGER}
use Rattle.outgoing.proofs.Elements.{size_behind}
use Rattle.outgoing.proofs.written_aborts.put_result.Goals as goal

pub returns : goal.returns
returns c = λ behind same.
    c.wrap.ensures (Primitive INTEGER (REJECT_PERMANENT ∷ []) ∷ []) behind (c.in_ok-put_primitive.ensures behind same)
    (size_behind _ _ behind c.len-kept.ensures same)
