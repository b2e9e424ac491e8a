use Rattle.std.proofs.Common.{List, ℕ, ap, subst, ◌∙◌}
use Rattle.std.specs.FinMap as map
use Rattle.std.specs.List.Sorted.{IsPermutation}
use Rattle.tsl.specs.Transactions.{OpenTransactions}
use Rattle.tsl.proofs.ListLemmas.{keys-listed}
use Rattle.tsl.proofs.transactions.Transactions.list.Goals as goal

pub returns : goal.returns
returns c =
    let i = c.self.inside in
    let sorted = c.sort_unstable.new.self.items in
    keys-listed i.ids i.keys.items i.entries i.room c.self.invariant sorted
    (subst (λ (xs : List (List ℕ)). IsPermutation xs sorted) c.in_ok-ids.ensures c.sort_unstable.ensures.permutation) c.sort_unstable.ensures.sorted
    ∙ ap (λ (t : OpenTransactions). map.keys t.open_ones) c.self.view_is
