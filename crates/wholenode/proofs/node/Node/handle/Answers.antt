use Rattle.std.proofs.Common.{◌≡◌, ◌<◌, rules, sym, ap, subst, ◌∙◌}
use Rattle.std.specs.Prelude.{Err}
use Rattle.std.specs.Arc.{arc_value}
use Rattle.std.proofs.lemmas.Option.{slice_get_read}
use Rattle.machine.specs.Routing.{route}
use Rattle.records.specs.Maps.{DirectoryMap}
use Rattle.hlrcore.specs.Addressees.{IsAddressee}
use Rattle.hlrcore.specs.Events.{event_of, raw_of}
use Rattle.hlrcore.specs.Shards.{directory_of}
use Rattle.shardlog.specs.declared.fault.ShardFault.{ShardFault}
use Rattle.wholenode.specs.declared.fault.Cause.{Cause}
use Rattle.wholenode.specs.Handling.{Refuses}
use Rattle.wholenode.proofs.CutLemmas.{is_mine, took_or_not}
use Rattle.wholenode.proofs.RunLemmas.{full_first, refuses, takes}
use Rattle.wholenode.proofs.WholeLemmas.{node_keeps}
use Rattle.wholenode.proofs.node.Node.handle.Goals as goal
use Rattle.wholenode.proofs.node.Node.handle.Goals.{in-Ok, in-Err}

pub handle-requires : goal.handle-requires
handle-requires c =
    let small : c.from-place.result < 16 = search rules in
    let at = slice_get_read c.self.inside.shards.items 16 c.from-place.result c.index_mut-shard.result.now
    (sym c.self.invariant.count) small c.index_mut-shard.ensures.value in
    subst (λ (d : DirectoryMap). IsAddressee (directory_of d) (event_of c.args.event.now) c.addressee_of-found.result)
    (c.deref.ensures ∙ sym (c.self.invariant.each c.from-place.result c.index_mut-shard.result.now at).state_is.directory_is)
    c.addressee_of-found.ensures.found

pub refusal-requires : goal.refusal-requires
refusal-requires c =
    let small : c.from-place.result < 16 = search rules in
    let routed : c.from-place.result ≡ route (directory_of (arc_value c.self.inside.directory))
    (event_of c.args.event.now) = search rules in
    let at = slice_get_read c.self.inside.shards.items 16 c.from-place.result c.index_mut-shard.result.now
    (sym c.self.invariant.count) small c.index_mut-shard.ensures.value in
    λ e. c.handle.ensures.not_mine (c.in-Err.is ∙ ap (λ (f : ShardFault). Err f) e)
    (is_mine (arc_value c.self.inside.directory) c.self.inside.shards.items
    (event_of c.args.event.now) c.from-place.result c.index_mut-shard.result.now c.self.invariant routed at)

pub invariant_of-self : goal.invariant_of-self
invariant_of-self c =
    let small : c.from-place.result < 16 = search rules in
    let at = slice_get_read c.self.inside.shards.items 16 c.from-place.result c.index_mut-shard.result.now
    (sym c.self.invariant.count) small c.index_mut-shard.ensures.value in
    took_or_not (arc_value c.self.inside.directory) c.self.inside.shards.items c.from-place.result c.index_mut-shard.result.now
    c.handle.new.self (raw_of c.args.event.now) c.handle.result
    c.self.invariant at c.handle.ensures.keeps c.handle.ensures.handles c.handle.ensures.err

pub returns-clause-takes : goal.returns-clause-takes
returns-clause-takes c =
    let small : c.from-place.result < 16 = search rules in
    let routed : c.from-place.result ≡ route (directory_of (arc_value c.self.inside.directory))
    (event_of c.args.event.now) = search rules in
    let at = slice_get_read c.self.inside.shards.items 16 c.from-place.result c.index_mut-shard.result.now
    (sym c.self.invariant.count) small c.index_mut-shard.ensures.value in
    elim c.match-handle.branch [
      | in-Ok w ↦ rw w.result-is
          (takes c.args.self.now (arc_value c.self.inside.directory) c.self.inside.shards.items
          (raw_of c.args.event.now) w.in-Ok.handled c.from-place.result c.index_mut-shard.result.now
          c.handle.new.self c.self.view_is c.self.invariant at (event_of c.args.event.now, c.requires, sym routed)
          w.in-Ok.ensures.handles)
      | in-Err w ↦ rw w.result-is tt
    ]

pub returns-clause-refused : goal.returns-clause-refused
returns-clause-refused c =
    let small : c.from-place.result < 16 = search rules in
    let routed : c.from-place.result ≡ route (directory_of (arc_value c.self.inside.directory))
    (event_of c.args.event.now) = search rules in
    let at = slice_get_read c.self.inside.shards.items 16 c.from-place.result c.index_mut-shard.result.now
    (sym c.self.invariant.count) small c.index_mut-shard.ensures.value in
    elim c.match-handle.branch [
      | in-Ok w ↦ rw w.result-is tt
      | in-Err w ↦ rw w.result-is
          (subst (λ (cause : Cause). Refuses c.args.self.now (raw_of c.args.event.now) cause) (sym w.refusal.ensures)
          (refuses c.args.self.now (arc_value c.self.inside.directory) c.self.inside.shards.items (raw_of c.args.event.now)
          (event_of c.args.event.now) w.in-Err.fault c.from-place.result
          c.index_mut-shard.result.now c.self.view_is c.self.invariant at c.requires (sym routed)
          (λ e. let all = c.handle.ensures.full.0 (w.in-Err.is ∙ ap (λ (f : ShardFault). Err f) e) in (all.1, all.2))
          (λ e.
          let lacks = w.in-Err.is ∙ ap (λ (f : ShardFault). Err f) e in (
            c.handle.ensures.no_room lacks,
            λ full. full_first lacks (c.handle.ensures.full.1 (
              is_mine (arc_value c.self.inside.directory) c.self.inside.shards.items
                  (event_of c.args.event.now) c.from-place.result c.index_mut-shard.result.now c.self.invariant routed at,
              full.0,
              full.1,
            )),
          ))))
    ]

pub returns-clause-keeps : goal.returns-clause-keeps
returns-clause-keeps c =
    let small : c.from-place.result < 16 = search rules in
    let at = slice_get_read c.self.inside.shards.items 16 c.from-place.result c.index_mut-shard.result.now
    (sym c.self.invariant.count) small c.index_mut-shard.ensures.value in
    node_keeps _ _
    (took_or_not (arc_value c.self.inside.directory) c.self.inside.shards.items c.from-place.result c.index_mut-shard.result.now
    c.handle.new.self (raw_of c.args.event.now) c.handle.result
    c.self.invariant at c.handle.ensures.keeps c.handle.ensures.handles c.handle.ensures.err)
