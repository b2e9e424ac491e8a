use Rattle.std.proofs.Common.{◌≡◌, ℕ, ◌<◌, Some}
use Rattle.frames.specs.Octets.{RawEntry}
use Rattle.frames.specs.Account.{entry_at}
use Rattle.receipts.specs.Journals.{journal_list}
use Rattle.receipts.specs.Marks.{mark_at}
use Rattle.receipts.proofs.in_order.are_full.Given as goal

abbrev pub invariant-loop-number : goal.invariant-loop-number
invariant-loop-number l = (k position : ℕ) (e : RawEntry) → k < l.number → entry_at (journal_list l.shards) k position ≡ Some e → mark_at l.words k position ≡ 1
