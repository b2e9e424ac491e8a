use Rattle.std.proofs.Common.{None, Some, ap, ◌∙◌}
use Rattle.std.specs.FinMap as finite
use Rattle.records.specs.Maps.{RecordMap}
use Rattle.hlrcore.proofs.ExpiryLemmas.{expiry_here, expiry_planned, nothing_expires}
use Rattle.hlrcore.proofs.expiry.plan_expiry.Goals as goal

pub returns-in_err-due : goal.returns-in_err-due
returns-in_err-due c =
    let s = c.args.shard.now in
    rw c.from_residual.ensures (nothing_expires s
    (expiry_here s c.dialogues.result.now c.clock.result None c.dialogues.ensures.value
    c.clock.ensures.value c.dialogues.ensures.own c.in_err-due.ensures.expiry))

pub returns : goal.returns
returns c =
    let s = c.args.shard.now in
    let o = c.in_ok-id.field-0 in
    expiry_planned s c.in_ok-due.due o c.get-subscriber.result c.current_register-current.result c.expires-outcome.result c.plan_for.result
    (expiry_here s c.dialogues.result.now c.clock.result
    (Some c.in_ok-due.due) c.dialogues.ensures.value c.clock.ensures.value c.dialogues.ensures.own c.in_ok-due.ensures.expiry)
    c.in_ok-id.ensures.0 c.in_ok-id.ensures.1
    (c.get-subscriber.ensures.found ∙ ap (λ (m : RecordMap). finite.get m o.dialogue.subscriber) c.records.ensures)
    c.current_register-current.ensures c.expires-outcome.ensures.leaves c.expires-outcome.ensures.writable c.plan_for.ensures
