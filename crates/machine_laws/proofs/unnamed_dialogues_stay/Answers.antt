use Rattle.machine_laws.proofs.Naming.{unnamed_stays}
use Rattle.machine_laws.proofs.unnamed_dialogues_stay.Goals as goal

pub returns : goal.returns
returns c = λ S e T a i d step there h. unnamed_stays S e T a i d step there h
