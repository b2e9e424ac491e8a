use Rattle.hlr_program.proofs.SoundLemmas.{loaded_sound}
use Rattle.hlr_program.proofs.serve.load_text.Goals as goal

pub returns-in-Ok-clause-sound : goal.returns-in-Ok-clause-sound
returns-in-Ok-clause-sound c = loaded_sound c.args.text.now c.in-Ok.loaded c.in-Ok.ensures.found
