use Rattle.std.proofs.Common.{rules}
use Rattle.std.specs.Ordering.{is_lt}
use Rattle.std.proofs.lemmas.List.Sorted.{answers_always}
use Rattle.records.specs.Subscriber.{Subscriber}
use Rattle.records.specs.Maps.{digits_cmp}
use Rattle.records.proofs.OrderLemmas.{ascending}
use Rattle.records.proofs.records.ascend.Goals as goal

pub returns : goal.returns
returns c =
    let key = λ (s : Subscriber). s.imsi in
    ascending key c.args.records.now c.is_sorted_by.result
    (c.is_sorted_by.ensures.cases (λ x y. is_lt (digits_cmp (key x) (key y))) (answers_always _ _ _ (λ f a r g called. search rules)))
