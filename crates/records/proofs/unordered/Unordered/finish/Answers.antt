use Rattle.std.proofs.Common.{◌∙◌, rules}
use Rattle.std.proofs.lemmas.List.Sorted.{answers_always}
use Rattle.records.specs.Subscriber.{Subscriber}
use Rattle.records.proofs.MovedLemmas.{view_moved, sorted_in_order}
use Rattle.records.proofs.unordered.Unordered.finish.Goals as goal

pub of_sorted-requires : goal.of_sorted-requires
of_sorted-requires c =
    let sorted = c.sort_unstable_by_key.ensures.sorted (λ (s : Subscriber). s.imsi) (answers_always _ _ _ (λ f a r g called. search rules)) in
    sorted_in_order c.self.inside.records.items c.sort_unstable_by_key.new.self.items c.sort_unstable_by_key.ensures.permutation c.self.invariant.apart sorted

pub returns : goal.returns
returns c =
    c.of_sorted.ensures
    ∙ view_moved c.self.inside.records.items c.sort_unstable_by_key.new.self.items c.sort_unstable_by_key.ensures.permutation c.self.invariant.apart
    ∙ c.self.view_is
