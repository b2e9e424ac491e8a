use Rattle.std.proofs.Common.{◌≡◌, List, subst}
use Rattle.std.specs.Prelude.{IfOk, Some, slice_get, string_bytes}
use Rattle.shardlog.specs.Log.{Log}
use Rattle.audit.specs.Listing.{ListsDialogues}
use Rattle.embed.specs.Registers.{RegisterState}
use Rattle.embed.specs.Journals.{ListsOpen}
use Rattle.embed.proofs.RegisterLemmas.{lists_open}
use Rattle.embed.proofs.register.Register.open_dialogues.Goals as goal

pub returns : goal.returns
returns c =
    let l = c.shard_at-shard.result.now in
    let node = c.self.inside.node in
    let at = subst (λ n. slice_get node.shards n ≡ Some l) c.number.ensures.value c.shard_at-shard.ensures.stands in
    subst (λ (r : RegisterState). IfOk c.list_dialogues.result (λ text. ListsOpen r.node c.args.shard (string_bytes text))) c.self.view_is
    (lists_open node c.args.shard l (λ text. string_bytes text) c.list_dialogues.result at
    (subst (λ (ls : List Log). IfOk c.list_dialogues.result (λ text. ListsDialogues ls (string_bytes text))) c.from_ref.ensures.value
    c.list_dialogues.ensures))
