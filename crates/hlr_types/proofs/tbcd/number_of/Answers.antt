use Rattle.hlr_types.proofs.ReadLemmas.{next_number}
use Rattle.hlr_types.proofs.tbcd.number_of.Goals as goal

pub loop-octet-preserved : goal.loop-octet-preserved
loop-octet-preserved c =
    next_number c.loop-octet.number c.loop-octet.octet-index c.from.result c.args.octets.now c.loop-octet.invariant c.loop-octet-test.true
    c.if-octet-ge10.false c.if-octet-ge10-2.false c.from.ensures
