use Rattle.std.proofs.Common.{sym, ◌∙◌, true≢false}
use Rattle.receipts.specs.Journals.{journal_list}
use Rattle.receipts.proofs.Pairs.{reconciles}
use Rattle.receipts.proofs.in_order.are_in_order.Goals as goal
use Rattle.receipts.proofs.in_order.are_in_order.Goals.{then-numbers_rise, else-numbers_rise}

pub returns-then-are_pairs_by : goal.returns-then-are_pairs_by
returns-then-are_pairs_by g c = λ h. elim c.if-numbers_rise.branch [
  | then-numbers_rise w ↦ reconciles (journal_list c.args.shards.now) c.args.jobs.now c.args.receipts.now (c.numbers_rise.ensures.apart w.if-numbers_rise.true)
      (w.are_pairs_by.ensures (sym w.value-is ∙ c.if-are_pairs_by.true)) (c.are_named_once.ensures h)
  | else-numbers_rise w ↦ absurd (true≢false (sym c.if-are_pairs_by.true ∙ w.value-is ∙ w.if-numbers_rise.false))
]
