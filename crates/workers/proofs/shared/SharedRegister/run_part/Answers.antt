use Rattle.std.proofs.Common.{◌≡◌, length, map, rules}
use Rattle.hlrcore.specs.Events.{raw_event}
use Rattle.workers.proofs.NumberingLemmas.{added_rise, part_added}
use Rattle.workers.proofs.shared.SharedRegister.run_part.Goals as goal

pub handle-requires-clause-rising : goal.handle-requires-clause-rising
handle-requires-clause-rising g c κs within =
    let adds = c.in_ok-number.ensures.adds in
    let from : c.len-from.result ≡ length c.make_room.new.self.jobs = search rules in
    added_rise adds.0 c.len-from.result (map raw_event c.args.part.now.items) c.make_room.new.self.jobs c.number.new.self.jobs adds.1 from

pub returns-clause-handles : goal.returns-clause-handles
returns-clause-handles g c =
    let adds = c.in_ok-number.ensures.adds in
    let from : c.len-from.result ≡ length c.make_room.new.self.jobs = search rules in
    part_added c.args.self.now c.make_room.new.self c.number.new.self c.handle.new.self c.keep.new.self adds.0 c.len-from.result
    (map raw_event c.args.part.now.items) c.in_ok-receipts.receipts.items c.in_ok-make_room.ensures adds.1 c.in_ok-number.ensures.same from
    c.in_ok-receipts.ensures.same c.in_ok-receipts.ensures.pairs c.in_ok-keep.ensures
