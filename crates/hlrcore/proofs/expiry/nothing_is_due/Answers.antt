use Rattle.std.proofs.Common.{None, Some}
use Rattle.hlrcore.proofs.ExpiryLemmas.{expiry_here, nothing_expires, something_expires}
use Rattle.hlrcore.proofs.expiry.nothing_is_due.Goals as goal

pub returns-in-None-clause-none : goal.returns-in-None-clause-none
returns-in-None-clause-none c =
    let s = c.args.shard.now in
    nothing_expires s (expiry_here s c.dialogues.result.now c.clock.result None c.dialogues.ensures.value
    c.clock.ensures.value c.dialogues.ensures.own c.in-None.ensures.expiry)

pub returns-in-Some-clause-due : goal.returns-in-Some-clause-due
returns-in-Some-clause-due c =
    let s = c.args.shard.now in
    something_expires s c.dialogues.result.now c.in-Some.field-0 c.dialogues.ensures.value c.in-Some.ensures.is_open
    (expiry_here s c.dialogues.result.now c.clock.result (Some c.in-Some.field-0) c.dialogues.ensures.value c.clock.ensures.value c.dialogues.ensures.own
    c.in-Some.ensures.expiry)
