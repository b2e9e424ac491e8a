use Rattle.std.proofs.Common.{◌≡◌, List, subst}
use Rattle.std.specs.Prelude.{IfOk, Some, slice_get, string_bytes}
use Rattle.shardlog.specs.Log.{Log}
use Rattle.audit.specs.Listing.{ListsJournal}
use Rattle.embed.specs.Registers.{RegisterState}
use Rattle.embed.specs.Journals.{ListsShard}
use Rattle.embed.proofs.RegisterLemmas.{lists_shard}
use Rattle.embed.proofs.register.Register.listing.Goals as goal

pub returns : goal.returns
returns c =
    let l = c.shard_at-shard.result.now in
    let node = c.self.inside.node in
    let at = subst (λ n. slice_get node.shards n ≡ Some l) c.number.ensures.value c.shard_at-shard.ensures.stands in
    subst (λ (r : RegisterState). IfOk c.list_journal.result (λ text. ListsShard r.node c.args.shard (string_bytes text))) c.self.view_is
    (lists_shard node c.args.shard l (λ text. string_bytes text) c.list_journal.result at
    (subst (λ (ls : List Log). IfOk c.list_journal.result (λ text. ListsJournal ls (string_bytes text))) c.from_ref.ensures.value
    c.list_journal.ensures))
