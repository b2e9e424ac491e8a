use Rattle.std.proofs.Common.{Some, ap, sym, ◌∙◌}
use Rattle.machine.specs.Expiries.{expires}
use Rattle.csl.specs.declared.was.Was.{Was}
use Rattle.csl.specs.Seen.{was as was_of}
use Rattle.dialogues.specs.Seen.{dialogue_with}
use Rattle.location.proofs.expiry.expires.Goals as goal

pub returns-in-Sent-clause-leaves : goal.returns-in-Sent-clause-leaves
returns-in-Sent-clause-leaves c = λ here vs own is current.
    c.sent_expires.ensures.leaves here (Some (dialogue_with vs c.args.dialogue.now)) vs own is current
    ∙ ap (λ (w : Was). expires here c.args.due.id (dialogue_with vs c.args.dialogue.now) c.args.due.invoke (was_of w) c.args.new) (sym c.in-Sent.is)
