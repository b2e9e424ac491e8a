use Rattle.tsl.proofs.RowLemmas.{row_of_begin}
use Rattle.tsl.proofs.transactions.Transactions.begin_reserved.Goals as goal

pub returns-clause-table : goal.returns-clause-table
returns-clause-table c = row_of_begin c.args.self.now c.open.new.self c.open.result c.args.to c.open.ensures.begun
