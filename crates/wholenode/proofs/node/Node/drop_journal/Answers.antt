use Rattle.std.proofs.Common.{◌≡◌, ◌<◌, ℕ, rules, set, subst, sym, ap}
use Rattle.std.specs.Arc.{arc_value}
use Rattle.std.proofs.lemmas.Option.{slice_get_read}
use Rattle.shardlog.specs.Log.{Log}
use Rattle.wholenode.specs.Handling.{Drops}
use Rattle.wholenode.specs.Nodes.{node}
use Rattle.wholenode.proofs.CutLemmas.{drops, kept}
use Rattle.wholenode.proofs.WholeLemmas.{node_keeps}
use Rattle.wholenode.proofs.node.Node.drop_journal.Goals as goal

pub invariant_of-self : goal.invariant_of-self
invariant_of-self c =
    let small : c.from-place.result < 16 = search rules in
    let at = slice_get_read c.self.inside.shards.items 16 c.from-place.result c.index_mut.result.now
    (sym c.self.invariant.count) small c.index_mut.ensures.value in
    kept (arc_value c.self.inside.directory) c.self.inside.shards.items c.from-place.result c.index_mut.result.now c.drop_journal.new.self
    c.self.invariant at c.drop_journal.ensures.keeps.1 (ap (λ (l : Log). l.state) c.drop_journal.ensures.next)

pub returns-clause-drops : goal.returns-clause-drops
returns-clause-drops c =
    let small : c.from-place.result < 16 = search rules in
    let same : c.from-place.result ≡ c.args.shard = search rules in
    let at = slice_get_read c.self.inside.shards.items 16 c.from-place.result c.index_mut.result.now
    (sym c.self.invariant.count) small c.index_mut.ensures.value in
    subst (λ (n : ℕ). Drops c.args.self.now n
    (node (arc_value c.self.inside.directory) (set c.self.inside.shards.items c.from-place.result c.drop_journal.new.self))) same
    (drops c.args.self.now (arc_value c.self.inside.directory) c.self.inside.shards.items c.from-place.result
    c.index_mut.result.now c.drop_journal.new.self c.self.view_is at c.drop_journal.ensures.next)

pub returns-clause-keeps : goal.returns-clause-keeps
returns-clause-keeps c = node_keeps _ _ (invariant_of-self c)
