use Rattle.frames_laws.proofs.Laws as laws
use Rattle.frames_laws.proofs.sent_components_have_forms.Goals as goal

pub returns : goal.returns
returns c = laws.sent_components_have_forms
