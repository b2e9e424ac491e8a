use Rattle.frames_laws.proofs.AccountsComputed as laws
use Rattle.frames_laws.proofs.examples.accounts.Goals as goal

pub returns : goal.returns
returns c = laws.accounts
