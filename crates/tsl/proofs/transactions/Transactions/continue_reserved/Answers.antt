use Rattle.tsl.proofs.RowLemmas.{row_of_answer}
use Rattle.tsl.proofs.transactions.Transactions.continue_reserved.Goals as goal

pub returns-clause-table : goal.returns-clause-table
returns-clause-table c = row_of_answer c.args.self.now c.open.new.self c.open.result c.args.from c.args.origin c.open.ensures.begun
