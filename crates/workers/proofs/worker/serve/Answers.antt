use Rattle.std.proofs.Common.{rules, arith, ap, ◌≡◌, map}
use Rattle.std.specs.Prelude.{OnErr}
use Rattle.crossbeam_channel.specs.Claims.{view}
use Rattle.workers.proofs.Moves.{takes}
use Rattle.workers.proofs.Serving.{stopped, passed, answered}
use Rattle.workers.proofs.worker.serve.Goals as goal

pub recv_as-requires-clause-rule : goal.recv_as-requires-clause-rule
recv_as-requires-clause-rule g c =
    let one : (view c.loop.seat).shares ≡ 1 = ap (λ v. v.shares) c.loop.invariant.1.own in
    (takes _ _ (omega arith), λ items views kept at. tt)

pub returns-in-Stop-clause-taken : goal.returns-in-Stop-clause-taken
returns-in-Stop-clause-taken g c = stopped _ _ _ _ _ _ _ c.loop.invariant.1 c.in-Ok.ensures.rule c.in-Stop.is

pub loop-preserved-then-not-refused : goal.loop-preserved-then-not-refused
loop-preserved-then-not-refused g c =
    let kept : OnErr c.answer_lot.result (map (λ r. r.job) c.answer_lot.new.receipts.items ≡ map (λ r. r.job) c.loop.receipts.items) = search rules in (
      c.in-Ok.ensures.channel.0,
      answered c.answer_lot.result _ _ _ _ _ _ _ _ _ _ c.of-jobs.ensures c.loop.invariant.1 c.if-not-refused.true c.in-Ok.ensures.rule c.in-Do.is
          c.answer_lot.ensures.ok kept c.is_err-refused.ensures.value,
    )

pub loop-preserved : goal.loop-preserved
loop-preserved g c =
    (c.in-Ok.ensures.channel.0, rw c.if-not-refused.false (passed _ _ _ _ _ _ _ _ c.loop.invariant.1 c.in-Ok.ensures.rule c.in-Do.is))
