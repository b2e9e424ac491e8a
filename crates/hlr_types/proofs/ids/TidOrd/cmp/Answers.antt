use Rattle.std.proofs.Common.{◌∙◌}
use Rattle.hlr_types.proofs.IdOrder.{told_order}
use Rattle.hlr_types.proofs.ids.TidOrd.cmp.Goals as goal

pub returns : goal.returns
returns c =
    c.cmp.ensures
    ∙ told_order c.args.self.now c.args.other.now c.word.result c.word-2.result c.word.ensures.value c.word-2.ensures.value c.word.ensures.octets
    c.word-2.ensures.octets
