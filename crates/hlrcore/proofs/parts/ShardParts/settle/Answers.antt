use Rattle.std.proofs.Common.{◌≡◌, refl, subst}
use Rattle.hlrcore.specs.Ids.{MovesIds}
use Rattle.hlrcore.specs.Shards.{ShardState}
use Rattle.hlrcore.proofs.SettleLemmas.{settled_by, taken_by}
use Rattle.hlrcore.proofs.parts.ShardParts.settle.Goals as goal

pub returns-clause-settled : goal.returns-clause-settled
returns-clause-settled c =
    settled_by _ c.args.self.now c.args.plan c.clock-clock.result c.self.view_is c.clock-clock.ensures.value c.requires.can
    c.write.new.records c.change.new.dialogues c.write.ensures c.in_ok-id.ensures.changed

pub returns-clause-says : goal.returns-clause-says
returns-clause-says c = record {
  id_is = taken_by _ c.args.self.now c.args.plan c.clock-clock.result c.self.view_is
      c.clock-clock.ensures.value c.requires.can c.in_ok-id.id c.in_ok-id.ensures.taken;
  subject_is = refl;
  outs = c.in_ok-outs.ensures;
}

pub returns-clause-own : goal.returns-clause-own
returns-clause-own c = subst (λ (s : ShardState). s.dialogues.shard ≡ s.shard) c.self.view_is c.self.invariant.dialogues

pub returns-clause-ids : goal.returns-clause-ids
returns-clause-ids c =
    subst (λ (s : ShardState). MovesIds s.dialogues c.in_ok-id.id c.change.new.dialogues) c.self.view_is c.in_ok-id.ensures.ids
