use Rattle.records.proofs.OctetLemmas.{fit_octets}
use Rattle.records.proofs.numbers.are_octets.Goals as goal

pub returns : goal.returns
returns c = fit_octets c.args.numbers.now c.type_inv.numbers
