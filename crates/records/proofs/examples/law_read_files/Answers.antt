use Rattle.records.proofs.FilesRead.{read_files}
use Rattle.records.proofs.examples.law_read_files.Goals as goal

pub returns : goal.returns
returns c = read_files
