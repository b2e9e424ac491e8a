use Rattle.frames_laws.proofs.SaneLaws as laws
use Rattle.frames_laws.proofs.sent_is_sane.Goals as goal

pub returns : goal.returns
returns c = laws.sent_sane
