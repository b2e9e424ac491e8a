use Rattle.std.proofs.Common.{◌≡◌, ◌∷◌, [], ap, arith, get_or, length, map, sym, ◌∙◌}
use Rattle.std.proofs.lemmas.List.{map-append, with_items_is}
use Rattle.frames.specs.Account.{Job}
use Rattle.frames.specs.Octets.{RawExpire}
use Rattle.receipts.specs.Jobs.{job_of}
use Rattle.workers.proofs.Alone.{receipt_more}
use Rattle.workers.proofs.worker.answer_lot.Goals as goal

pub loop-place-preserved : goal.loop-place-preserved
loop-place-preserved g c =
    let any : Job = job_of 0 (RawExpire 0) in
    let same : c.answer-receipt.new.tasks ≡ c.loop-place.tasks.items = c.answer-receipt.ensures.same ∙ c.deref_mut-in-loop-place.ensures.value in
    record {
      room = omega (arith, c.push_reserved.ensures.len, c.push_reserved.ensures.capacity, c.loop-place.invariant.room);
      tasks = with_items_is c.loop-place.tasks c.answer-receipt.new.tasks (ap length same ∙ sym c.loop-place.tasks.ok.0) ∙ same
          ∙ c.loop-place.invariant.tasks;
      answered = receipt_more c.args.jobs.now c.loop-place.place any c.answer-receipt.result.job (map (λ r. r.job) c.reserve.new.self.items)
          (map (λ r. r.job) c.loop-place.receipts.items) _ c.loop-place-test.true
          (c.answer-receipt.ensures.job any ∙ ap (λ ts. (get_or ts c.loop-place.place any).number) (c.deref_mut-in-loop-place.ensures.value ∙ c.loop-place.invariant.tasks))
          c.loop-place.invariant.answered
          (ap (map (λ r. r.job)) c.push_reserved.ensures.items ∙ map-append (λ r. r.job) c.loop-place.receipts.items (c.answer-receipt.result ∷ []));
    }
