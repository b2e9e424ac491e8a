use Rattle.std.proofs.Common.{List, map, rules, subst}
use Rattle.hlr_types.specs.Orders.{octets_cmp}
use Rattle.audit.specs.Gathered.{opened}
use Rattle.audit.specs.Listing.{Open, id_of}
use Rattle.audit.specs.Orders.{InOrder}
use Rattle.audit.proofs.Orders.{sorted_so}
use Rattle.audit.proofs.gathered.dialogues_by_id.Goals as goal

pub returns : goal.returns
returns c =
    subst (λ (items : List Open). InOrder id_of octets_cmp items (map opened c.sort_by_key.new.self.items)) c.in_ok-all.ensures
    (sorted_so opened id_of octets_cmp c.in_ok-all.all.items c.sort_by_key.new.self.items c.in_ok-sort_by_key.ensures.permutation
    c.in_ok-sort_by_key.ensures.sorted
    c.in_ok-sort_by_key.ensures.stable (λ a r f k. search rules))
