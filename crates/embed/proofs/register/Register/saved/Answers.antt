use Rattle.std.proofs.Common.{◌≡◌, List, ap, subst, ◌∙◌}
use Rattle.std.specs.Prelude.{string_bytes}
use Rattle.std.proofs.lemmas.Result.{IfOk-weaker}
use Rattle.shardlog.specs.Log.{Log}
use Rattle.audit.specs.Saving.{Saves}
use Rattle.embed.specs.Registers.{RegisterState}
use Rattle.embed.proofs.SavedLemmas.{saved}
use Rattle.embed.proofs.register.Register.saved.Goals as goal

pub returns : goal.returns
returns c =
    let node = c.args.self.now.node in
    let law = c.law_records_in_order.ensures in
    let same : c.shards.result.now ≡ node.shards = c.shards.ensures.shards ∙ ap (λ (r : RegisterState). r.node.shards) c.self.view_is in
    IfOk-weaker c.save_records.result _ _
    (λ text saves. saved node law.keeps law.order law.numbers (string_bytes text)
    (subst (λ (ls : List Log). Saves ls (string_bytes text)) same saves)) c.save_records.ensures
