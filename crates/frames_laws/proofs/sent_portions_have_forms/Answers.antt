use Rattle.frames_laws.proofs.Laws as laws
use Rattle.frames_laws.proofs.sent_portions_have_forms.Goals as goal

pub returns : goal.returns
returns c = laws.sent_portions_have_forms
