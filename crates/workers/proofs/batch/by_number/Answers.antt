use Rattle.std.proofs.Common.{rules}
use Rattle.std.specs.List.Sorted.{IsNonDecreasingBy}
use Rattle.std.proofs.lemmas.List.Sorted.{IsPermutation-map, IsNonDecreasingBy-from_sort_by_key}
use Rattle.frames.specs.Account.{Receipt}
use Rattle.receipts.proofs.Rising.{rising, rising_keys, apart_moved}
use Rattle.workers.proofs.batch.by_number.Goals as goal

pub returns-clause-same : goal.returns-clause-same
returns-clause-same c = rw c.in_ok-receipts.was (IsPermutation-map (λ r. r.job) _ _ c.sort_by_key.ensures.permutation)

pub returns-clause-rising : goal.returns-clause-rising
returns-clause-rising c =
    let moved = IsPermutation-map (λ (r : Receipt). r.job) _ _ c.sort_by_key.ensures.permutation in
    let sorted : IsNonDecreasingBy (λ (r : Receipt). r.job) c.sort_by_key.new.self.items =
    IsNonDecreasingBy-from_sort_by_key (λ r. r.job) _ c.in_ok-sort_by_key.ensures.sorted (λ a r q k. search rules) in
    rw c.in_ok-receipts.was (λ apart. rising _ (rising_keys (λ r. r.job) _ sorted) (apart_moved _ _ moved apart))
