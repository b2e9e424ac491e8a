use Rattle.x690.proofs.Computed as laws
use Rattle.x690.proofs.examples.tags_of_elements.Goals as goal

pub returns : goal.returns
returns c = laws.tags_of_elements
