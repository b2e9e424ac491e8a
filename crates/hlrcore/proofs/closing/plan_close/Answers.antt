use Rattle.std.proofs.Common.{[], ap, ◌∙◌}
use Rattle.std.specs.FinMap as finite
use Rattle.records.specs.Maps.{RecordMap}
use Rattle.dialogues.specs.Dialogues.{dialogues_of}
use Rattle.hlrcore.proofs.ClosingLemmas.{closing_planned}
use Rattle.hlrcore.proofs.LookLemmas.{close_for_none}
use Rattle.hlrcore.proofs.closing.plan_close.Goals as goal

pub returns-in_err-id : goal.returns-in_err-id
returns-in_err-id c =
    rw c.from_residual.ensures (close_for_none [] c.args.destination (dialogues_of c.args.shard.now.dialogues c.args.destination) (c.in_err-id.ensures []))

pub returns : goal.returns
returns c =
    let o = c.in_ok-id.field-0 in
    closing_planned c.args.shard.now c.args.destination o c.get-subscriber.result c.closes-outcome.result c.plan_for.result c.in_ok-id.ensures
    (c.get-subscriber.ensures.found ∙ ap (λ (m : RecordMap). finite.get m o.dialogue.subscriber) c.records.ensures)
    c.closes-outcome.ensures.leaves c.closes-outcome.ensures.writable c.plan_for.ensures
