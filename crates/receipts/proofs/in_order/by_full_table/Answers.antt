use Rattle.receipts.proofs.Marking.{none_marked}
use Rattle.receipts.proofs.in_order.by_full_table.Goals as goal

pub names_each_once-requires : goal.names_each_once-requires
names_each_once-requires c = none_marked 65536
