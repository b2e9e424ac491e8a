use Rattle.std.proofs.Common.{[], ◌∷◌}
use Rattle.x690.specs.Tree.{Primitive}
use Rattle.frames.specs.declared.numbers.TheConstants.{PLMN_ROAMING_NOT_ALLOWED}
use Rattle.frames.specs.declared.tags.TheConstants.{ENUMERATED}
use Rattle.outgoing.proofs.Elements.{size_behind}
use Rattle.outgoing.proofs.written_components.put_roaming_not_allowed.Goals as goal

pub returns : goal.returns
returns c = λ behind same.
    c.wrap.ensures (Primitive ENUMERATED (PLMN_ROAMING_NOT_ALLOWED ∷ []) ∷ []) behind (c.in_ok-put_primitive.ensures behind same)
    (size_behind _ _ behind c.len-kept.ensures same)
