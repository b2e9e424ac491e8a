use Rattle.std.proofs.Common.{◌≡◌, map, rules}
use Rattle.std.specs.Prelude.{Some, slice_get, string_bytes}
use Rattle.records.specs.Maps.{digits_cmp}
use Rattle.audit.specs.Listing.{imsi_of, records_in}
use Rattle.audit.specs.Orders.{InOrder}
use Rattle.audit.proofs.Saving.{saves_if_ok}
use Rattle.audit.proofs.saved.save_records.Goals as goal

pub returns : goal.returns
returns c =
    let at : slice_get c.args.shards.now 0 ≡ Some c.in-Some.first.now = search rules in
    let number : c.hlr.result ≡ c.in-Some.first.now.state.hlr = search rules in
    let ordered : InOrder imsi_of digits_cmp (records_in c.args.shards.now)
    (map (λ found. found.now) c.deref.result.now) = rw c.deref.ensures.value c.in_ok-all.ensures in
    saves_if_ok string_bytes c.save.result c.args.shards.now c.in-Some.first.now c.hlr.result
    (map (λ found. found.now) c.deref.result.now) at number ordered c.save.ensures.text
    c.save.ensures.again
