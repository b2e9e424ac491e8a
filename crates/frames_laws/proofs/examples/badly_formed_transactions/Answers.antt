use Rattle.frames_laws.proofs.Computed as laws
use Rattle.frames_laws.proofs.examples.badly_formed_transactions.Goals as goal

pub returns : goal.returns
returns c = laws.badly_formed_transactions
