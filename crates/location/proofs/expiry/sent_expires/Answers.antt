use Rattle.std.proofs.Common.{List, map, ap, sym, ◌∙◌}
use Rattle.machine.specs.Expiries.{sent_expires}
use Rattle.machine.specs.Dialogues.{update_fails}
use Rattle.q773_comp.specs.declared.sending.Rejection.{Rejection as Rejected}
use Rattle.q773_comp.specs.Seen.{rejection}
use Rattle.dialogues.specs.declared.kind.Kind.{Kind}
use Rattle.dialogues.specs.Seen.{dialogue_with, kind_of}
use Rattle.location.proofs.expiry.sent_expires.Goals as goal

pub returns-in-Update-clause-leaves : goal.returns-in-Update-clause-leaves
returns-in-Update-clause-leaves c = λ here named vs own is current.
    c.update_fails.ensures.leaves here named vs is
    ∙ ap (λ (r : List Rejected). update_fails here c.args.id (dialogue_with vs c.args.dialogue.now) c.in-Update.invoke (map rejection r)) c.new.ensures.items
    ∙ ap (λ (k : Kind). sent_expires here c.args.id (dialogue_with vs c.args.dialogue.now) (kind_of k) c.args.new) (sym c.in-Update.is)

pub returns-in-Cancel-clause-leaves : goal.returns-in-Cancel-clause-leaves
returns-in-Cancel-clause-leaves c = λ here named vs own is current.
    c.cancel_expires.ensures.leaves here named vs own is current
    ∙ ap (λ (k : Kind). sent_expires here c.args.id (dialogue_with vs c.args.dialogue.now) (kind_of k) c.args.new) (sym c.in-Cancel.is)
