use Rattle.std.proofs.Common.{arith, ap, ◌+◌, ◌-◌, ◌≡◌, subst, sym}
use Rattle.crossbeam_channel.specs.Claims.{view}
use Rattle.workers.specs.Batch.{stops_in}
use Rattle.workers.specs.Hands.{IsBatch}
use Rattle.workers.proofs.Batches.{batch_lots}
use Rattle.workers.proofs.Moves.{hires}
use Rattle.workers.proofs.Stops.{stop_taken, stops_sent}
use Rattle.workers.proofs.batch.lead.Goals as goal

pub put_stops-seat-requires-clause-batch : goal.put_stops-seat-requires-clause-batch
put_stops-seat-requires-clause-batch g c =
    let sent = c.put_jobs-seat.ensures.sent in subst IsBatch (sym (ap (λ v. v.sent) sent.1)) (batch_lots sent.0)

pub another-own-requires-clause-rule : goal.another-own-requires-clause-rule
another-own-requires-clause-rule g c =
    let first = ap (λ v. v.shares) c.put_jobs-seat.ensures.sent.1 in
    let second = ap (λ v. v.shares) c.put_stops-seat.ensures.sent in hires _ _ (ap (λ v. v.sends) c.put_stops-seat.ensures.sent) (omega arith)

pub returns-clause-stops : goal.returns-clause-stops
returns-clause-stops g c =
    let lots = c.put_jobs-seat.ensures.sent in
    let all = stops_sent lots.0 _ _ _ _ lots.1 c.put_stops-seat.ensures.sent in
    let split = c.another-own.ensures.rule.0 in
    let here = view c.another-own.new.pass in
    let sent = ap (λ v. stops_in v.sent) split in
    let taken = ap (λ v. stops_in v.taken) split in
    let others : stops_in here.sent ≡ c.args.workers - 1 + 1 + stops_in here.taken = omega arith in
    stop_taken _ here (view c.serve-served.result.seat) (view c.gather.result.0) others c.serve-served.ensures.taken.stopped c.gather.ensures.view
