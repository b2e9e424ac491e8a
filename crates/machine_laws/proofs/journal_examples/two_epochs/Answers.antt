use Rattle.machine_laws.proofs.journal_examples.two_epochs.Goals as goal

pub returns : goal.returns
returns c = λ n S T U journal later first second. (first, (second, tt))
