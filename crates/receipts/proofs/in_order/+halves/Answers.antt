use Rattle.receipts.specs.Journals.{journal_list}
use Rattle.receipts.proofs.Pairs.{pairs_of_halves}
use Rattle.receipts.proofs.in_order.+halves.Goals as goal

pub returns-then-first : goal.returns-then-first
returns-then-first g t c = λ h.
    pairs_of_halves (journal_list c.args.shards.now) c.args.jobs.now c.split_at.result.0.now c.split_at.result.1.now c.args.receipts.now
    c.split_at-2.result.0.now c.split_at-2.result.1.now _ _ c.split_at.ensures.front c.split_at.ensures.back c.split_at-2.ensures.front
    c.split_at-2.ensures.back (c.join-first.ensures.first c.if-first.true) (c.join-first.ensures.second h)
