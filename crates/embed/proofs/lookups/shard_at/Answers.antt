use Rattle.std.proofs.Common.{◌≡◌, ◌<◌, List, length, subst, rules}
use Rattle.std.specs.Prelude.{Some, slice_get}
use Rattle.std.proofs.lemmas.Option.{slice_get_read}
use Rattle.shardlog.specs.Log.{Log}
use Rattle.embed.proofs.lookups.shard_at.Goals as goal

pub returns-clause-stands : goal.returns-clause-stands
returns-clause-stands c =
    let shards = c.shards-shards.result.now in
    let it = c.index-shards-place.result in
    let small : c.from-place.result < 16 = search rules in
    let same : c.from-place.result ≡ c.args.number = search rules in
    let count : 16 ≡ length c.shards-shards.result.now = search rules in
    let at = slice_get_read shards 16 c.from-place.result it count small c.index-shards-place.is in
    subst (λ n. slice_get c.args.node.now.shards n ≡ Some it) same
    (subst (λ (ls : List Log). slice_get ls c.from-place.result ≡ Some it) c.shards-shards.ensures.shards at)
