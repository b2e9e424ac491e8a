use Rattle.machine_laws.proofs.Subjects.{known_is}
use Rattle.machine_laws.proofs.dialogues_have_subjects.Goals as goal

pub returns : goal.returns
returns c = λ S i d sound there. known_is d.subscriber (S.records d.subscriber) (sound.dialogues i d there).has_record
