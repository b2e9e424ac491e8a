use Rattle.std.proofs.Common.{◌+◌, ◌<◌, ◌≤◌, ℕ, List, length, map, arith, subst, sym}
use Rattle.std.specs.Prelude.{Some}
use Rattle.std.proofs.lemmas.List.{drop-set-lt, drop_all, length-map}
use Rattle.frames.specs.Octets.{RawOut}
use Rattle.hlrcore.specs.declared.event.Event.{Event}
use Rattle.hlrcore.specs.Events.{raw_of}
use Rattle.shardlog.specs.declared.keep.Keep.{Keep}
use Rattle.wholenode.specs.Nodes.{NodeState, whole}
use Rattle.wholenode.proofs.ReadLemmas.{reading_event}
use Rattle.hlr_program.specs.declared.fault.Fault.{Fault}
use Rattle.hlr_program.specs.Answered.{so_far}
use Rattle.hlr_program.specs.Parts.{IsReady}
use Rattle.hlr_program.specs.Printed.{Prints}
use Rattle.hlr_program.specs.Stopping.{EventsStop}
use Rattle.hlr_program.proofs.PartLemmas.{sending_at, sending_begins, sending_ends, sending_goes_on, sending_not_full, sending_ready, sending_stops, taken_ready}
use Rattle.hlr_program.proofs.alone.handle_lot.Goals as goal

pub loop-event-init : goal.loop-event-init
loop-event-init c = sending_begins c.requires.ready.0 c.args.node.now (map raw_of c.args.read.now) (so_far c.args.answers.now) c.args.read.now
    (length c.args.read.now) c.requires.read c.requires.ready.1

pub handle-requires : goal.handle-requires
handle-requires c =
    let within : c.loop-event.event-index < length c.loop-event.read = omega arith in
    let at = sending_at _ _ _ c.loop-event.read c.loop-event.event-index c.event-item.result _ _ within c.loop-event.invariant in
    reading_event _ _ _ _ _ _ at.reading

pub stopped-requires : goal.stopped-requires
stopped-requires c =
    let within : c.loop-event.event-index < length c.loop-event.read = omega arith in
    let at = sending_at _ _ _ c.loop-event.read c.loop-event.event-index c.event-item.result _ _ within c.loop-event.invariant in
    sending_not_full c.requires.ready.0 _ _ _ _ _ _ _ c.in-Err.cause
    (subst (λ (n : ℕ). IsReady c.requires.ready.0 c.args.node.now n) (sym (length-map c.args.read.now raw_of)) c.requires.ready.1) at
    c.in-Err.ensures.refused

pub returns-in-Err-clause-stops : goal.returns-in-Err-clause-stops
returns-in-Err-clause-stops c =
    let within : c.loop-event.event-index < length c.loop-event.read = omega arith in
    let at = sending_at _ _ _ c.loop-event.read c.loop-event.event-index c.event-item.result _ _ within c.loop-event.invariant in
    subst (λ (f : Fault). EventsStop (Some (whole c.args.node.now.shards)) (map raw_of c.args.read.now) f) (sym c.stopped.ensures)
    (sending_stops _ _ _ _ _ _ _ c.in-Err.cause at c.in-Err.ensures.refused)

pub loop-event-preserved : goal.loop-event-preserved
loop-event-preserved c =
    let within : c.loop-event.event-index < length c.loop-event.read = omega arith in
    let at = sending_at _ _ _ c.loop-event.read c.loop-event.event-index c.event-item.result _ _ within c.loop-event.invariant in
    let kept = drop-set-lt (c.loop-event.event-index + 1) c.loop-event.read c.loop-event.event-index c.take_raw.new.self (omega arith) in
    rw kept (sending_goes_on _ _ _ _ _ _ c.handle.new.self _ (so_far c.push_all.new.self) c.in-Ok.handled at c.in-Ok.ensures.takes
    c.in-Ok.ensures.keeps
    (subst (λ (frames : List RawOut). Prints (so_far c.loop-event.answers) frames (so_far c.push_all.new.self)) c.as_slice.ensures c.in_ok-push_all.ensures))

pub returns-clause-sends : goal.returns-clause-sends
returns-clause-sends c =
    let past : length c.loop-event.read ≤ c.loop-event.event-index = omega arith in
    sending_ends c.requires.ready.0 _ _ _ _ _ _ (length c.args.read.now) c.requires.ready.1 c.loop-event.invariant
    (drop_all c.loop-event.event-index c.loop-event.read past)

-- so many events that were read
as_read : (keep : Keep) (node : NodeState) (read : List Event) (more : ℕ) → IsReady keep node (length read + more)
    → IsReady keep node (length (map raw_of read) + more)
as_read keep node read more h = subst (λ (n : ℕ). IsReady keep node (n + more)) (sym (length-map read raw_of)) h

pub returns-in-Err-clause-ready : goal.returns-in-Err-clause-ready
returns-in-Err-clause-ready c = λ keep more h.
    subst (λ (n : NodeState). IsReady keep n more) (sym c.in-Err.ensures.err)
    (sending_ready _ _ _ _ _ _ c.loop-event.invariant keep more (as_read keep c.args.node.now c.args.read.now more h))

pub returns-in_err-push_all-clause-ready : goal.returns-in_err-push_all-clause-ready
returns-in_err-push_all-clause-ready c = λ keep more h.
    let within : c.loop-event.event-index < length c.loop-event.read = omega arith in
    let at = sending_at _ _ _ c.loop-event.read c.loop-event.event-index c.event-item.result _ _ within c.loop-event.invariant in
    taken_ready _ _ _ _ _ _ c.handle.new.self _ c.in-Ok.handled at c.in-Ok.ensures.takes c.in-Ok.ensures.keeps keep more
    (as_read keep c.args.node.now c.args.read.now more h)

pub returns-clause-ready : goal.returns-clause-ready
returns-clause-ready c = λ keep more h.
    sending_ready _ _ _ _ _ _ c.loop-event.invariant keep more (as_read keep c.args.node.now c.args.read.now more h)
