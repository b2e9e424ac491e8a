use Rattle.std.proofs.Common.{ℕ, List, rules}
use Rattle.std.specs.Ordering.{is_lt}
use Rattle.std.proofs.lemmas.List.Sorted.{answers_always}
use Rattle.records.specs.Maps.{digits_cmp}
use Rattle.records.proofs.OrderLemmas.{ascending}
use Rattle.records.proofs.directory.ascend.Goals as goal

pub returns : goal.returns
returns c =
    let key = λ (e : List ℕ × List ℕ). e.0 in
    ascending key c.args.entries.now c.is_sorted_by.result
    (c.is_sorted_by.ensures.cases (λ x y. is_lt (digits_cmp (key x) (key y))) (answers_always _ _ _ (λ f a r g called. search rules)))
