use Rattle.hlr_input.proofs.OctetLaws.{stand_found}
use Rattle.hlr_input.proofs.frame_octets.are_octets.Goals as goal

pub returns-clause-octets : goal.returns-clause-octets
returns-clause-octets c = stand_found c.args.known c.args.text.now c.stand.result c.stand.ensures
