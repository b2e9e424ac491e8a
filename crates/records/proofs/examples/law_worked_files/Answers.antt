use Rattle.records.proofs.Computed.{worked_files}
use Rattle.records.proofs.examples.law_worked_files.Goals as goal

pub returns : goal.returns
returns c = worked_files
