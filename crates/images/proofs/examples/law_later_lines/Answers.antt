use Rattle.std.proofs.Common.{refl}
use Rattle.std.specs.FinSet.{len-empty}
use Rattle.images.proofs.examples.law_later_lines.Goals as goal

pub returns-clause-last_without_dialogues : goal.returns-clause-last_without_dialogues
returns-clause-last_without_dialogues c = λ s. (len-empty _, refl, refl)
