-- A dialogue portion is read exactly if it has its form.
use Rattle.frames.proofs.DialogueLaws.{dialogue_found, dialogue_again}

pub ruleset read_laws = (dialogue_found, dialogue_again)
