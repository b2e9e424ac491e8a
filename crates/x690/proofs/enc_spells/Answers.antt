use Rattle.x690.proofs.Spellings as laws
use Rattle.x690.proofs.enc_spells.Goals as goal

pub returns : goal.returns
returns c = laws.enc_spells
