use Rattle.std.proofs.Common.{List, map, rules, subst}
use Rattle.audit.specs.Gathered.{placed}
use Rattle.audit.specs.Listing.{Placed, place_cmp, place_of}
use Rattle.audit.specs.Orders.{InOrder}
use Rattle.audit.proofs.Orders.{sorted_so}
use Rattle.audit.proofs.gathered.entries_by_place.Goals as goal

pub returns : goal.returns
returns c =
    subst (λ (items : List Placed). InOrder place_of place_cmp items (map placed c.sort_by_key.new.self.items)) c.in_ok-all.ensures
    (sorted_so placed place_of place_cmp c.in_ok-all.all.items c.sort_by_key.new.self.items c.in_ok-sort_by_key.ensures.permutation
    c.in_ok-sort_by_key.ensures.sorted
    c.in_ok-sort_by_key.ensures.stable (λ a r f k. search rules))
