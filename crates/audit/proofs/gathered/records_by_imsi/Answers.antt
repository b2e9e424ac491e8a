use Rattle.std.proofs.Common.{List, map, rules, subst}
use Rattle.records.specs.Maps.{digits_cmp}
use Rattle.records.specs.Subscriber.{Subscriber}
use Rattle.audit.specs.Listing.{imsi_of}
use Rattle.audit.specs.Orders.{InOrder}
use Rattle.audit.proofs.Orders.{sorted_so}
use Rattle.audit.proofs.gathered.records_by_imsi.Goals as goal

pub returns : goal.returns
returns c =
    subst (λ (items : List Subscriber). InOrder imsi_of digits_cmp items (map (λ found. found.now) c.sort_by_key.new.self.items))
    c.in_ok-all.ensures
    (sorted_so (λ found. found.now) imsi_of digits_cmp c.in_ok-all.all.items c.sort_by_key.new.self.items
    c.in_ok-sort_by_key.ensures.permutation c.in_ok-sort_by_key.ensures.sorted
    c.in_ok-sort_by_key.ensures.stable (λ a r f k. search rules))
