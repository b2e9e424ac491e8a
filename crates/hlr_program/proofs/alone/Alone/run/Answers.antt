use Rattle.std.proofs.Common.{◌≡◌, ◌+◌, List, map, length, ap, sym, subst, ◌∙◌, arith, rules}
use Rattle.std.specs.Prelude.{Some}
use Rattle.std.proofs.lemmas.List.{length-map}
use Rattle.frames.specs.Octets.{RawEvent}
use Rattle.hlrcore.specs.Events.{raw_event}
use Rattle.wholenode.specs.Nodes.{whole}
use Rattle.hlr_program.specs.declared.fault.Fault.{Fault}
use Rattle.hlr_program.specs.declared.register.Register.TheVariants.{Alone}
use Rattle.hlr_program.specs.Gathered.{with_part}
use Rattle.hlr_program.specs.Gathering.{progress}
use Rattle.hlr_program.specs.Journals.{RunsAlone}
use Rattle.hlr_program.specs.Stopping.{EventsStop}
use Rattle.hlr_program.proofs.GatherLemmas.{adds_none}
use Rattle.hlr_program.proofs.ListLemmas.{else_on, then_on}
use Rattle.hlr_program.proofs.LotLemmas.{lot_adds, lot_ready, lot_stops, read_is}
use Rattle.hlr_program.proofs.PartLemmas.{ready_less, unread_stops}
use Rattle.hlr_program.proofs.alone.Alone.run.Goals as goal

pub returns-then-is_empty-clause-adds : goal.returns-then-is_empty-clause-adds
returns-then-is_empty-clause-adds c = adds_none (progress (Alone c.args.self.now) c.args.answers.now)

pub handle_lot-requires-clause-read : goal.handle_lot-requires-clause-read
handle_lot-requires-clause-read c =
    (read_is (map raw_event c.self.inside.gathered.items) c.deref_mut.result.now c.read_lot.new.read.items c.deref_mut.ensures.value c.in-Ok.ensures.read).1

pub handle_lot-requires-clause-ready : goal.handle_lot-requires-clause-ready
handle_lot-requires-clause-ready c =
    let raws : List RawEvent = map raw_event c.self.inside.gathered.items in
    let same = (read_is raws c.deref_mut.result.now c.read_lot.new.read.items c.deref_mut.ensures.value c.in-Ok.ensures.read).0 in
    let long : length c.self.inside.gathered.items ≡ c.len-count.result = search rules in
    let count : length raws ≡ c.len-count.result = length-map c.self.inside.gathered.items raw_event ∙ long in (
      c.self.inside.keep,
      ready_less c.self.inside.keep c.begin_part.new.node (length c.deref_mut.result.now + c.begin_part.new.ahead.room)
          (length c.deref_mut.result.now) (omega arith)
          (lot_ready c.self.inside.keep c.begin_part.new.node c.len-count.result c.begin_part.new.ahead.room raws c.deref_mut.result.now count same
          c.begin_part.ensures.ready),
    )

pub invariant_of-self : goal.invariant_of-self
invariant_of-self c =
    let raws : List RawEvent = map raw_event c.self.inside.gathered.items in
    let same = (read_is raws c.deref_mut.result.now c.read_lot.new.read.items c.deref_mut.ensures.value c.in-Ok.ensures.read).0 in
    let long : length c.self.inside.gathered.items ≡ c.len-count.result = search rules in
    let count : length raws ≡ c.len-count.result = length-map c.self.inside.gathered.items raw_event ∙ long in
    let none : length c.read_lot.new.events.items ≡ 0 = ap length c.in-Ok.ensures.emptied in (
      c.handle_lot.ensures.ready c.self.inside.keep c.begin_part.new.ahead.room
          (lot_ready c.self.inside.keep c.begin_part.new.node c.len-count.result c.begin_part.new.ahead.room raws c.deref_mut.result.now count same
          c.begin_part.ensures.ready),
      omega (arith, none),
    )

pub returns-in-Ok-clause-adds : goal.returns-in-Ok-clause-adds
returns-in-Ok-clause-adds c =
    let raws : List RawEvent = map raw_event c.self.inside.gathered.items in
    let same = (read_is raws c.deref_mut.result.now c.read_lot.new.read.items c.deref_mut.ensures.value c.in-Ok.ensures.read).0 in
    then_on c.handle_lot.result c.handle_lot.ensures.sends
    (λ (outs, ran, prints). lot_adds c.args.self.now (with_part c.handle_lot.new.node (map raw_event c.read_lot.new.events.items)) c.self.inside.node
    c.begin_part.new.node c.args.answers.now c.handle_lot.new.answers raws outs c.self.view_is (ap (map raw_event) c.in-Ok.ensures.emptied)
    c.begin_part.ensures.ran (subst (λ (l : List RawEvent). RunsAlone c.begin_part.new.node l outs c.handle_lot.new.node) same ran) prints)

pub returns-in-Ok-clause-stops : goal.returns-in-Ok-clause-stops
returns-in-Ok-clause-stops c =
    let raws : List RawEvent = map raw_event c.self.inside.gathered.items in
    let same = (read_is raws c.deref_mut.result.now c.read_lot.new.read.items c.deref_mut.ensures.value c.in-Ok.ensures.read).0 in
    else_on _ _ c.handle_lot.result c.handle_lot.ensures.stops
    (λ fault stops. lot_stops c.args.self.now c.self.inside.node c.begin_part.new.node c.args.answers.now raws fault c.self.view_is c.begin_part.ensures.ran
    (subst (λ (l : List RawEvent). EventsStop (Some (whole c.begin_part.new.node.shards)) l fault) same stops))

pub returns-in-Err-clause-stops : goal.returns-in-Err-clause-stops
returns-in-Err-clause-stops c =
    let raws : List RawEvent = map raw_event c.self.inside.gathered.items in
    lot_stops c.args.self.now c.self.inside.node c.begin_part.new.node c.args.answers.now raws c.stopped.result c.self.view_is c.begin_part.ensures.ran
    (subst (λ (f : Fault). EventsStop (Some (whole c.begin_part.new.node.shards)) raws f) (sym c.stopped.ensures)
    (unread_stops c.begin_part.new.node raws c.in-Err.cause c.in-Err.ensures.unread))
