use Rattle.std.proofs.Common.{below_more}
use Rattle.frames.specs.Account.{IsStray}
use Rattle.receipts.specs.Journals.{journal_list}
use Rattle.receipts.proofs.Places.{count_of}
use Rattle.receipts.proofs.Strays.{stray, named, nowhere}
use Rattle.receipts.proofs.account.has_stray.Goals as goal

pub returns-then-has_stray_in : goal.returns-then-has_stray_in
returns-then-has_stray_in c =
    stray c.args.shards.now c.args.receipts.now c.loop-number.number c.index-shards-number.result c.loop-number-test.true c.index-shards-number.is
    (rw (← count_of _ c.index-shards-number.result c.entries.ensures.entries) c.if-has_stray_in.ensures)

pub loop-number-preserved : goal.loop-number-preserved
loop-number-preserved c = λ k position low.
    below_more (λ n. IsStray (journal_list c.args.shards.now) c.args.receipts.now n position → ⊥) c.loop-number.number
    (λ n under. c.loop-number.invariant n position under)
    (named c.args.shards.now c.args.receipts.now c.loop-number.number c.index-shards-number.result c.loop-number-test.true c.index-shards-number.is
    (rw (← count_of _ c.index-shards-number.result c.entries.ensures.entries) c.if-has_stray_in.ensures) position)
    k low

pub returns : goal.returns
returns c = nowhere c.args.shards.now c.args.receipts.now c.loop-number.number c.loop-number-test.false c.loop-number.invariant
