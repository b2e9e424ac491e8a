use Rattle.tsl.proofs.RowLemmas.{row_of_own_end}
use Rattle.tsl.proofs.transactions.Transactions.end.Goals as goal

pub returns-clause-table : goal.returns-clause-table
returns-clause-table c = row_of_own_end c.args.self.now c.close-transaction.new.self c.args.id c.requires c.close-transaction.ensures.closed
