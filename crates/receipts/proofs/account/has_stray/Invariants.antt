use Rattle.std.proofs.Common.{ℕ, ◌<◌}
use Rattle.frames.specs.Account.{IsStray}
use Rattle.receipts.specs.Journals.{journal_list}
use Rattle.receipts.proofs.account.has_stray.Given as goal

abbrev pub invariant-loop-number : goal.invariant-loop-number
invariant-loop-number l = (k position : ℕ) → k < l.number → IsStray (journal_list l.shards) l.receipts k position → ⊥
