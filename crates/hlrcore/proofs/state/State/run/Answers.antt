use Rattle.std.proofs.Common.{◌≡◌, ◌<◌, ◌+◌, ◌++◌, ◌∷◌, [], List, length, get_or, take, rules, sym, subst, arith}
use Rattle.std.specs.Prelude.{Err}
use Rattle.hlrcore.specs.declared.answer.StepAnswer.{StepAnswer}
use Rattle.hlrcore.specs.Shards.{ShardState}
use Rattle.hlrcore.specs.declared.fault.StepFault.TheVariants.{Memory, NotMine}
use Rattle.hlrcore.specs.Running.{BreaksOff, RunsTo}
use Rattle.hlrcore.proofs.RunningLemmas as lemma
use Rattle.hlrcore.proofs.state.State.run.Goals as goal

pub loop-event-init : goal.loop-event-init
loop-event-init c = record {
  so_far = lemma.no_event c.args.self.now c.new-done.result.items c.new-done.ensures.items;
  same = lemma.same_shard c.args.self.now;
}

pub loop-event-preserved : goal.loop-event-preserved
loop-event-preserved c =
    let lt : c.loop-event.event-index < length c.args.events.now = search rules in
    let is : c.event-item.result ≡ get_or c.args.events.now c.loop-event.event-index c.event-item.result = search rules in
    let put : c.push_reserved.new.self.items ≡ c.loop-event.done.items ++ c.in-Ok.answer ∷ [] = search rules in
    let ok : c.step.result ≡ Err NotMine → ⊥ = λ e. cc in
    record {
      so_far =
          subst (λ (d : List StepAnswer). RunsTo c.args.self.now (take (c.loop-event.event-index + 1) c.args.events.now) d c.step.new.self) (sym put)
          (lemma.one_more c.args.self.now c.loop-event.self c.step.new.self c.args.events.now c.loop-event.event-index c.event-item.result
          c.loop-event.done.items c.in-Ok.answer c.step.result lt is c.loop-event.invariant.same c.loop-event.invariant.so_far
          c.in-Ok.ensures.stepped c.in-Ok.ensures.ids c.step.ensures.not_mine ok);
      same =
          lemma.same_shard_after c.args.self.now c.loop-event.self c.step.new.self c.loop-event.invariant.same c.step.ensures.same_shard;
    }

pub returns-then-is_err-clause-breaks_off : goal.returns-then-is_err-clause-breaks_off
returns-then-is_err-clause-breaks_off c =
    let lt : c.loop-event.event-index < length c.args.events.now = search rules in
    let is : c.event-item.result ≡ get_or c.args.events.now c.loop-event.event-index c.event-item.result = search rules in
    subst (λ (d : List StepAnswer). BreaksOff c.args.self.now c.args.events.now d Memory c.loop-event.self) (sym c.reserve.ensures.items)
    (lemma.breaks_off c.args.self.now c.loop-event.self c.args.events.now c.loop-event.event-index c.event-item.result
    c.loop-event.done.items Memory lt is c.loop-event.invariant.so_far tt)

pub returns-then-is_err-clause-same_shard : goal.returns-then-is_err-clause-same_shard
returns-then-is_err-clause-same_shard c = c.loop-event.invariant.same

pub returns-in-Err-clause-breaks_off : goal.returns-in-Err-clause-breaks_off
returns-in-Err-clause-breaks_off c =
    let lt : c.loop-event.event-index < length c.args.events.now = search rules in
    let is : c.event-item.result ≡ get_or c.args.events.now c.loop-event.event-index c.event-item.result = search rules in
    subst (λ (s : ShardState). BreaksOff c.args.self.now c.args.events.now c.reserve.new.self.items c.in-Err.fault s)
    (sym c.in-Err.ensures.err)
    (subst (λ (d : List StepAnswer). BreaksOff c.args.self.now c.args.events.now d c.in-Err.fault c.loop-event.self)
    (sym c.reserve.ensures.items)
    (lemma.breaks_off c.args.self.now c.loop-event.self c.args.events.now c.loop-event.event-index c.event-item.result
    c.loop-event.done.items c.in-Err.fault lt is c.loop-event.invariant.so_far
    (lemma.refused c.loop-event.self c.event-item.result c.step.result c.in-Err.fault c.in-Err.is c.step.ensures.not_mine
    c.step.ensures.no_room)))

pub returns-in-Err-clause-same_shard : goal.returns-in-Err-clause-same_shard
returns-in-Err-clause-same_shard c =
    lemma.same_shard_after c.args.self.now c.loop-event.self c.step.new.self c.loop-event.invariant.same c.step.ensures.same_shard

pub returns-clause-runs : goal.returns-clause-runs
returns-clause-runs c =
    let all : c.loop-event.event-index ≡ length c.args.events.now = omega arith in
    lemma.all_taken c.args.self.now c.loop-event.self c.args.events.now c.loop-event.event-index c.loop-event.done.items all
    c.loop-event.invariant.so_far

pub returns-clause-same_shard : goal.returns-clause-same_shard
returns-clause-same_shard c = c.loop-event.invariant.same
