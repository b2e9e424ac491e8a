use Rattle.std.proofs.Common.{◌+◌, ◌-◌, ◌*◌, ◌/◌}
use Rattle.receipts.proofs.in_order.+halves.Given as goal

abbrev pub decreases-are_pairs_by : goal.decreases-are_pairs_by
decreases-are_pairs_by g l = 2 * l.threads

abbrev pub decreases-join+arg2 : goal.decreases-join+arg2
decreases-join+arg2 g l = 2 * (l.threads / 2) + 1

abbrev pub decreases-join+arg3 : goal.decreases-join+arg3
decreases-join+arg3 g l = 2 * (l.threads - l.threads / 2) + 1
