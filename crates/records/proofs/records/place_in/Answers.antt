use Rattle.std.proofs.Common.{Err, rules}
use Rattle.std.proofs.lemmas.List.Sorted.{answers_always}
use Rattle.records.specs.Subscriber.{Subscriber}
use Rattle.records.proofs.OrderLemmas.{searched, at_its_key}
use Rattle.records.proofs.InOrder.{missing}
use Rattle.records.proofs.records.place_in.Goals as goal

pub returns-in-Ok-clause-found : goal.returns-in-Ok-clause-found
returns-in-Ok-clause-found c =
    let imsi = λ (s : Subscriber). s.imsi in
    let by_key = c.in-Ok.ensures.position imsi (answers_always _ _ _ (λ f a r g called. search rules)) in
    record { inside = c.in-Ok.ensures.bound; own = at_its_key imsi c.args.records.now c.args.imsi.now c.in-Ok.at by_key }

pub returns-in-Err-clause-none : goal.returns-in-Err-clause-none
returns-in-Err-clause-none c = λ ordered.
    let imsi = λ (s : Subscriber). s.imsi in
    let by_key = c.in-Err.ensures.position imsi (answers_always _ _ _ (λ f a r g called. search rules)) in
    missing c.args.records.now c.args.imsi.now
    (searched imsi c.args.records.now ordered c.args.imsi.now (Err c.in-Err.field-0) by_key c.in-Err.ensures.bound)
