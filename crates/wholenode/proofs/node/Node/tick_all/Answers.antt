use Rattle.std.proofs.Common.{◌≡◌, List, length, sym, subst, ◌∙◌, rules}
use Rattle.std.specs.Arc.{arc_value}
use Rattle.std.specs.Prelude.{OnErr, OnOk}
use Rattle.std.specs.Vec.{with_items}
use Rattle.std.proofs.lemmas.List.{with_items_is}
use Rattle.shardlog.specs.Log.{Log}
use Rattle.shardlog.specs.Ticking.{AreTicked, Hinders}
use Rattle.wholenode.specs.declared.fault.Cause.{Cause}
use Rattle.wholenode.specs.Keeping.{AreShards}
use Rattle.wholenode.specs.Nodes.{node}
use Rattle.wholenode.specs.Ticking.{RefusesTicks, TicksAll}
use Rattle.wholenode.proofs.TickLemmas.{hinders_own, refuses_ticks, ticked_are, ticked_count, ticks_all}
use Rattle.wholenode.proofs.WholeLemmas.{node_keeps}
use Rattle.wholenode.proofs.node.Node.tick_all.Goals as goal
use Rattle.wholenode.proofs.node.Node.tick_all.Goals.{in-Ok, in-Err}

pub refusal-requires : goal.refusal-requires
refusal-requires c = hinders_own c.deref_mut.result.now c.in-Err.why c.in-Err.ensures.hinders

-- the shards of the node are those that the call leaves
are_news : (c : goal.Joined-tick_all) → (with_items c.self.inside.shards c.tick_all.new.shards).items ≡ c.tick_all.new.shards
are_news c =
    let shards = c.self.inside.shards.items in
    let are : c.deref_mut.result.now ≡ shards = search rules in
    let count : length c.tick_all.new.shards ≡ length shards =
    ticked_count (arc_value c.self.inside.directory) c.args.now shards c.tick_all.new.shards c.tick_all.result
    (subst (λ (ls : List Log). OnOk c.tick_all.result (AreTicked c.args.now ls c.tick_all.new.shards)) are c.tick_all.ensures.ticks)
    (subst (λ (ls : List Log). OnErr c.tick_all.result (c.tick_all.new.shards ≡ ls)) are c.tick_all.ensures.err) in
    with_items_is c.self.inside.shards c.tick_all.new.shards (count ∙ sym c.self.inside.shards.ok.0)

pub invariant_of-self : goal.invariant_of-self
invariant_of-self c =
    let shards = c.self.inside.shards.items in
    let are : c.deref_mut.result.now ≡ shards = search rules in
    subst (AreShards (arc_value c.self.inside.directory)) (sym (are_news c))
    (ticked_are (arc_value c.self.inside.directory) c.args.now shards c.tick_all.new.shards c.tick_all.result c.self.invariant
    (subst (λ (ls : List Log). OnOk c.tick_all.result (AreTicked c.args.now ls c.tick_all.new.shards)) are c.tick_all.ensures.ticks)
    (subst (λ (ls : List Log). OnErr c.tick_all.result (c.tick_all.new.shards ≡ ls)) are c.tick_all.ensures.err))

pub returns-clause-ticks : goal.returns-clause-ticks
returns-clause-ticks c =
    let shards = c.self.inside.shards.items in
    let are : c.deref_mut.result.now ≡ shards = search rules in
    elim c.match-tick_all.branch [
      | in-Ok w ↦ rw w.result-is
          (subst (λ (ls : List Log). TicksAll c.args.self.now c.args.now (node (arc_value c.self.inside.directory) ls)) (sym (are_news c))
          (ticks_all (arc_value c.self.inside.directory) c.args.now c.args.self.now shards c.tick_all.new.shards c.self.view_is c.self.invariant
          (subst (λ (ls : List Log). AreTicked c.args.now ls c.tick_all.new.shards) are w.in-Ok.ensures.ticks)))
      | in-Err w ↦ rw w.result-is tt
    ]

pub returns-clause-refused : goal.returns-clause-refused
returns-clause-refused c =
    let shards = c.self.inside.shards.items in
    let are : c.deref_mut.result.now ≡ shards = search rules in
    elim c.match-tick_all.branch [
      | in-Ok w ↦ rw w.result-is tt
      | in-Err w ↦ rw w.result-is
          (subst (λ (cause : Cause). RefusesTicks c.args.self.now c.args.now cause) (sym w.refusal.ensures)
          (refuses_ticks (arc_value c.self.inside.directory) c.args.now c.args.self.now shards w.in-Err.why c.self.view_is c.self.invariant
          (subst (λ (ls : List Log). Hinders ls w.in-Err.why) are w.in-Err.ensures.hinders)))
    ]

pub returns-clause-keeps : goal.returns-clause-keeps
returns-clause-keeps c = node_keeps _ _ (invariant_of-self c)
