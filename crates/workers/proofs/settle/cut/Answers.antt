use Rattle.std.proofs.Common.{◌≡◌, List, ap, length, map, sym, subst, ◌∙◌}
use Rattle.std.specs.Prelude.{All}
use Rattle.std.proofs.lemmas.List.{length-map, with_items_is}
use Rattle.records.specs.Maps.{DirectoryMap}
use Rattle.shardlog.specs.Log.{Log, LogKeeps, cut_log}
use Rattle.wholenode.specs.Keeping.{AreShards}
use Rattle.workers.proofs.Standing.{cut_shards}
use Rattle.workers.proofs.settle.cut.Goals as goal

pub of_parts-requires : goal.of_parts-requires
of_parts-requires c =
    let node = c.args.node in let shards = c.into_parts-directory.result.1 in let now = c.cut_all.new.shards in
    let was : shards.items ≡ node.shards = c.into_parts-directory.ensures.shards in
    let is : now ≡ map cut_log shards.items = c.cut_all.ensures.cut ∙ ap (map cut_log) c.deref_mut.ensures.value in
    let all : now ≡ map cut_log node.shards = is ∙ ap (map cut_log) was in
    let items = with_items_is shards now (ap length is ∙ length-map shards.items cut_log ∙ sym shards.ok.0) in
    subst (λ (p : DirectoryMap × List Log). AreShards p.0 p.1)
    (λ i. (sym c.into_parts-directory.ensures.directory i, sym (items ∙ all) i))
    (cut_shards node.directory node.shards c.into_parts-directory.ensures.keeps.shards (subst (All LogKeeps) all c.cut_all.ensures.keeps))
