use Rattle.std.proofs.Common.{◌≡◌, ◌<◌, refl, rules}
use Rattle.std.specs.Arc.{arc_value}
use Rattle.machine.specs.Events.{Clock}
use Rattle.frames.specs.Octets.{RawClock}
use Rattle.wholenode.proofs.NamedLemmas.{IsNamed, asked_its_own, named, named_are, named_refuses, named_takes}
use Rattle.wholenode.proofs.WholeLemmas.{node_keeps}
use Rattle.wholenode.proofs.node.Node.tick.Goals as goal
use Rattle.wholenode.proofs.node.Node.tick.Goals.{in-Ok, in-Err}

pub refusal-requires : goal.refusal-requires
refusal-requires c =
    let small : c.from-place.result < 16 = search rules in
    let place : c.from-place.result ≡ c.args.number = search rules in
    asked_its_own (arc_value c.self.inside.directory) c.self.inside.shards.items c.args.number c.from-place.result
    c.index_mut-shard.result.now c.tick.result
    (named (arc_value c.self.inside.directory) c.self.inside.shards.items c.args.number c.from-place.result c.index_mut-shard.result.now
    c.self.invariant place small c.index_mut-shard.ensures.value)
    c.in-Err.why c.in-Err.is c.tick.ensures.refused.not_mine.0

shard_is : (c : goal.Joined-tick)
    → IsNamed (arc_value c.self.inside.directory) c.self.inside.shards.items c.args.number c.from-place.result c.index_mut-shard.result.now
shard_is c =
    let small : c.from-place.result < 16 = search rules in
    let place : c.from-place.result ≡ c.args.number = search rules in
    named (arc_value c.self.inside.directory) c.self.inside.shards.items c.args.number c.from-place.result c.index_mut-shard.result.now
    c.self.invariant place small c.index_mut-shard.ensures.value

pub invariant_of-self : goal.invariant_of-self
invariant_of-self c =
    named_are (arc_value c.self.inside.directory) c.self.inside.shards.items c.args.number c.from-place.result c.index_mut-shard.result.now
    c.tick.result (shard_is c) (RawClock c.args.number c.args.now) c.tick.new.self
    c.tick.ensures.keeps c.tick.ensures.handles c.tick.ensures.err

pub returns-clause-takes : goal.returns-clause-takes
returns-clause-takes c = elim c.match-tick.branch [
  | in-Ok w ↦ rw w.result-is
      (named_takes (arc_value c.self.inside.directory) c.self.inside.shards.items c.args.number c.from-place.result
      c.index_mut-shard.result.now c.tick.result (shard_is c) c.args.self.now (RawClock c.args.number c.args.now) (Clock c.args.number c.args.now) c.tick.new.self
      w.in-Ok.ticked c.self.view_is (refl, refl) refl w.in-Ok.ensures.handles)
  | in-Err w ↦ rw w.result-is tt
]

pub returns-clause-refused : goal.returns-clause-refused
returns-clause-refused c = elim c.match-tick.branch [
  | in-Ok w ↦ rw w.result-is tt
  | in-Err w ↦ rw w.result-is
      (named_refuses (arc_value c.self.inside.directory) c.self.inside.shards.items c.args.number c.from-place.result
      c.index_mut-shard.result.now c.tick.result (shard_is c) c.args.self.now (RawClock c.args.number c.args.now) (Clock c.args.number c.args.now) w.in-Err.why
      w.refusal.result c.self.view_is (refl, refl) refl w.in-Err.is w.refusal.ensures
      (λ full. let all = c.tick.ensures.refused.full.0 full in (all.1, all.2)) c.tick.ensures.refused.has_room)
]

pub returns-clause-keeps : goal.returns-clause-keeps
returns-clause-keeps c = node_keeps _ _ (invariant_of-self c)
