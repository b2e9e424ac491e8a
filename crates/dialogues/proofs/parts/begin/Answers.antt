use Rattle.std.proofs.Common.{ap}
use Rattle.std.specs.Option.{is_some}
use Rattle.tsl.specs.Transactions.{transaction_of}
use Rattle.dialogues.proofs.StepLemmas.{open_when_begun, slot_there}
use Rattle.dialogues.proofs.parts.begin.Goals as goal

pub unwrap-slot-requires : goal.unwrap-slot-requires
unwrap-slot-requires c =
    let id = c.begin_transaction-id.result in
    let x = transaction_of c.args.dialogue.now.transaction in
    ap is_some (slot_there c.begin_transaction-id.new.transactions id x c.slot.result
    (open_when_begun c.args.transactions.now c.begin_transaction-id.new.transactions id x c.begin_transaction-id.ensures) c.slot.ensures.slot)
