use Rattle.std.proofs.Common.{sym, ◌∙◌}
use Rattle.std.specs.Prelude.{string_bytes}
use Rattle.images.proofs.SlotsUsed.{have_slots, never_unused}
use Rattle.images.proofs.WriteLemmas.{freed_more}
use Rattle.images.proofs.write.push_freed.Goals as goal

pub unreachable-requires : goal.unreachable-requires
unreachable-requires c =
    never_unused c.args.ids.now.shard c.args.ids.now.supply (have_slots c.args.ids.now c.law_resumed.ensures) c.loop-slot.slot-index c.from.result
    c.free_slots-slot-items.result.now c.free_slots-slot-items.ensures c.loop-slot-test.true c.from.ensures (sym c.id_of_slot.ensures ∙ c.in_default.is)

pub loop-slot-preserved : goal.loop-slot-preserved
loop-slot-preserved c =
    let ids = c.args.ids.now in
    freed_more ids.shard ids.supply c.loop-slot.slot-index c.from.result c.free_slots-slot-items.result.now c.in-Some.id
    (string_bytes c.args.text.now) (string_bytes c.loop-slot.text) (string_bytes c.push_line.new.text) c.free_slots-slot-items.ensures
    c.loop-slot-test.true c.from.ensures (sym c.id_of_slot.ensures ∙ c.in-Some.is) c.loop-slot.invariant c.in_ok-push_line.ensures.text
    (c.in_ok-push_line.ensures.is_line tt)
