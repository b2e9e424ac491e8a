use Rattle.std.proofs.Common.{◌≡◌, ◌<◌, ◌+◌, ◌++◌, ◌∷◌, [], List, length, get_or, map, take, refl, rules, sym, subst, arith}
use Rattle.hlrcore.specs.Events.{raw_event}
use Rattle.shardlog.specs.declared.entry.Handled.{Handled}
use Rattle.wholenode.specs.declared.fault.Cause.TheVariants.{Memory}
use Rattle.wholenode.specs.Handling.{Runs, Stops}
use Rattle.wholenode.specs.Nodes.{NodeState}
use Rattle.wholenode.proofs.RunLemmas.{all_handled, handled_more, is_run, stops}
use Rattle.wholenode.proofs.WholeLemmas.{keeps_seen}
use Rattle.wholenode.proofs.node.Node.run.Goals as goal

pub loop-event-init : goal.loop-event-init
loop-event-init c = (
  subst (λ (d : List Handled). Runs c.args.self.now [] d c.args.self.now)
      (sym c.room_for-done.ensures) refl,
  keeps_seen _ _ _ c.self.view_is c.self.invariant,
)

pub loop-event-preserved : goal.loop-event-preserved
loop-event-preserved c =
    let lt : c.loop-event.event-index < length c.args.events.now = search rules in
    let is : c.event-item.result ≡ get_or c.args.events.now c.loop-event.event-index c.event-item.result = search rules in
    let put : c.push_reserved.new.self.items ≡ c.loop-event.done.items ++ c.in-Ok.handled ∷ [] = search rules in (
      subst (λ (d : List Handled). Runs c.args.self.now (map raw_event (take (c.loop-event.event-index + 1) c.args.events.now)) d
          c.take_copy.new.self) (sym put)
          (handled_more c.args.self.now c.loop-event.self c.take_copy.new.self c.args.events.now c.loop-event.event-index c.event-item.result
          c.loop-event.done.items c.in-Ok.handled lt is
          c.loop-event.invariant.0 c.in-Ok.ensures.takes),
      c.take_copy.ensures.keeps,
    )

pub returns-then-is_err-clause-stops : goal.returns-then-is_err-clause-stops
returns-then-is_err-clause-stops c =
    let lt : c.loop-event.event-index < length c.args.events.now = search rules in
    let is : c.event-item.result ≡ get_or c.args.events.now c.loop-event.event-index c.event-item.result = search rules in
    subst (λ (d : List Handled). Stops c.args.self.now (map raw_event c.args.events.now) d Memory c.loop-event.self)
    (sym c.reserve.ensures.items)
    (stops c.args.self.now c.loop-event.self c.args.events.now c.loop-event.event-index c.event-item.result c.loop-event.done.items Memory
    lt is c.loop-event.invariant.0 tt)

pub returns-then-is_err-clause-keeps : goal.returns-then-is_err-clause-keeps
returns-then-is_err-clause-keeps c = c.loop-event.invariant.1

pub returns-in-Err-clause-stops : goal.returns-in-Err-clause-stops
returns-in-Err-clause-stops c =
    let lt : c.loop-event.event-index < length c.args.events.now = search rules in
    let is : c.event-item.result ≡ get_or c.args.events.now c.loop-event.event-index c.event-item.result = search rules in
    subst (λ (n : NodeState). Stops c.args.self.now (map raw_event c.args.events.now) c.reserve.new.self.items c.in-Err.cause n)
    (sym c.in-Err.ensures.err)
    (subst (λ (d : List Handled). Stops c.args.self.now (map raw_event c.args.events.now) d c.in-Err.cause c.loop-event.self)
    (sym c.reserve.ensures.items)
    (stops c.args.self.now c.loop-event.self c.args.events.now c.loop-event.event-index c.event-item.result c.loop-event.done.items
    c.in-Err.cause lt is c.loop-event.invariant.0
    c.in-Err.ensures.refused))

pub returns-clause-handled : goal.returns-clause-handled
returns-clause-handled c =
    let all : c.loop-event.event-index ≡ length c.args.events.now = omega arith in
    all_handled c.args.self.now c.loop-event.self c.args.events.now c.loop-event.event-index c.loop-event.done.items all
    c.loop-event.invariant.0

pub returns-clause-run : goal.returns-clause-run
returns-clause-run c = is_run c.args.self.now c.loop-event.self _ c.loop-event.done.items (returns-clause-handled c)

pub returns-clause-keeps : goal.returns-clause-keeps
returns-clause-keeps c = c.loop-event.invariant.1
