use Rattle.tsl.proofs.RowLemmas.{row_of_close, row_of_own_close}
use Rattle.tsl.proofs.transactions.Transactions.abort.Goals as goal

pub returns-clause-comes : goal.returns-clause-comes
returns-clause-comes c = row_of_close c.args.self.now c.close.new.self c.args.id _ c.close.ensures.was c.close.ensures.closed

pub returns-clause-own : goal.returns-clause-own
returns-clause-own c = row_of_own_close c.args.self.now c.close.new.self c.args.id _ c.close.ensures.was c.close.ensures.closed
