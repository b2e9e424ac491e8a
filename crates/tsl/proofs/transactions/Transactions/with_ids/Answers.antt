use Rattle.std.proofs.Common.{length, ap, arith}
use Rattle.tsl.proofs.ViewLemmas.{AreEntries-none, open_of-none}
use Rattle.tsl.proofs.transactions.Transactions.with_ids.Goals as goal

pub invariant_of-result : goal.invariant_of-result
invariant_of-result c = AreEntries-none c.args.ids c.in_ok-vec.field-0.items c.new.result c.requires
    (omega (arith, c.in_ok-vec.ensures.len, c.in_ok-vec.field-0.ok.0, ap length c.free_slots-slots.ensures)) c.new.ensures.empty

pub returns : goal.returns
returns c = open_of-none c.args.ids c.in_ok-vec.field-0.items c.new.result c.requires
