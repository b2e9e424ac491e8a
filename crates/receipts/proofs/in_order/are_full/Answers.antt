use Rattle.std.proofs.Common.{◌≡◌, Some, refl, below_more}
use Rattle.frames.specs.Account.{entry_at}
use Rattle.receipts.specs.Journals.{journal_list}
use Rattle.receipts.specs.Marks.{mark_at}
use Rattle.receipts.proofs.Places.{count_of}
use Rattle.receipts.proofs.Marking.{at_each, at_all}
use Rattle.receipts.proofs.in_order.are_full.Goals as goal

pub loop-number-preserved : goal.loop-number-preserved
loop-number-preserved c = λ k position e low.
    below_more (λ n. entry_at (journal_list c.args.shards.now) n position ≡ Some e → mark_at c.args.words.now n position ≡ 1) c.loop-number.number
    (λ n under. c.loop-number.invariant n position e under)
    (at_each c.args.shards.now c.loop-number.number c.index-shards-number.result (λ position. mark_at c.args.words.now c.loop-number.number position ≡ 1)
    c.loop-number-test.true c.index-shards-number.is
    (rw (← count_of _ c.index-shards-number.result c.entries.ensures.entries) (c.if-not-is_full.ensures refl)) position e)
    k low

pub returns : goal.returns
returns c = λ _. at_all c.args.shards.now c.loop-number.number (λ n position. mark_at c.args.words.now n position ≡ 1)
    c.loop-number-test.false c.loop-number.invariant
