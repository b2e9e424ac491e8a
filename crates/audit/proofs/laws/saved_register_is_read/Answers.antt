use Rattle.audit.proofs.Saving.{saved_is_read}
use Rattle.audit.proofs.laws.saved_register_is_read.Goals as goal

pub returns : goal.returns
returns c = saved_is_read
