use Rattle.std.proofs.Common.{◌≡◌, take, get_or, ap, ◌∙◌, append_assoc, append-nil, arith}
use Rattle.std.proofs.lemmas.List.{map_more, take_all}
use Rattle.frames.specs.Account.{Job}
use Rattle.frames.specs.Account.{Receipt}
use Rattle.receipts.proofs.account.least_fault.Goals as goal

pub loop-job-preserved : goal.loop-job-preserved
loop-job-preserved c =
    let more = map_more (λ (j : Job). j.number) c.args.jobs.now c.loop-job.job-index c.job-item.result c.loop-job-test.true in
    let number : c.get.result ≡ (get_or c.args.jobs.now c.loop-job.job-index c.job-item.result).number = c.get.ensures.value
    ∙ ap (λ (j : Job). j.number) (c.job.view_is ∙ c.job-item.is) in (
      rw (more, ← number) (c.least_with-least.ensures.least _ c.loop-job.invariant.0),
      c.least_with-least.ensures.from_one c.loop-job.invariant.1 c.get.ensures.from_one,
    )

pub loop-receipt-init : goal.loop-receipt-init
loop-receipt-init c =
    let whole : take c.loop-job.job-index c.args.jobs.now ≡ c.args.jobs.now = take_all _ _ (omega arith) in
    (rw append-nil (rw whole at c.loop-job.invariant.0), c.loop-job.invariant.1)

pub loop-receipt-preserved : goal.loop-receipt-preserved
loop-receipt-preserved c =
    let more = map_more (λ (r : Receipt). r.job) c.args.receipts.now c.loop-receipt.receipt-index c.receipt-item.result c.loop-receipt-test.true in
    let number : c.get-in-loop-receipt.result
    ≡ (get_or c.args.receipts.now c.loop-receipt.receipt-index c.receipt-item.result).job = c.get-in-loop-receipt.ensures.value
    ∙ ap (λ (r : Receipt). r.job) (c.receipt.view_is ∙ c.receipt-item.is) in (
      rw (more, ← append_assoc, ← number) (c.least_with-least-in-loop-receipt.ensures.least _ c.loop-receipt.invariant.0),
      c.least_with-least-in-loop-receipt.ensures.from_one c.loop-receipt.invariant.1 c.get-in-loop-receipt.ensures.from_one,
    )
