use Rattle.std.proofs.Common.{[], ap, arith, map, ◌∙◌}
use Rattle.std.proofs.lemmas.List.{map-append}
use Rattle.workers.proofs.Alone.{receipt_more}
use Rattle.workers.proofs.GoingLemmas.{on_further}
use Rattle.workers.proofs.caller.answer_each.Goals as goal

pub loop-job-preserved : goal.loop-job-preserved
loop-job-preserved g c =
    let at = c.loop-job.invariant in
    record {
      room = omega (arith, c.push_reserved.ensures.len, c.push_reserved.ensures.capacity, at.room);
      are = c.answer_one-answer.ensures.are;
      gone_on = on_further c.args.shards.now c.loop-job.shards c.answer_one-answer.new.shards at.gone_on c.answer_one-answer.ensures.gone_on;
      answered = receipt_more c.args.jobs.now c.loop-job.job-index c.job-item.result c.job.inside.number [] (map (λ r. r.job) c.loop-job.receipts.items) _
          c.loop-job-test.true (ap (λ j. j.number) (c.job.view_is ∙ c.job-item.is)) at.answered
          (ap (map (λ r. r.job)) c.push_reserved.ensures.items ∙ map-append (λ r. r.job) c.loop-job.receipts.items _);
    }
