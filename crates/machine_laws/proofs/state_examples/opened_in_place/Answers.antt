use Rattle.machine_laws.proofs.state_examples.opened_in_place.Goals as goal

pub returns : goal.returns
returns c = λ S d o over. cc over.beside
