use Rattle.records.proofs.OctetLemmas.{fit_octets}
use Rattle.image_lines.proofs.facts.are_octets.Goals as goal

pub returns : goal.returns
returns c = fit_octets c.args.numbers.now c.type_inv.numbers
