use Rattle.std.proofs.Common.{◌≡◌, List, [], map, ap, sym, ◌∙◌}
use Rattle.machine.specs.Outcome.{end_in_dialogue}
use Rattle.machine.specs.Expiries.{is_wanted}
use Rattle.q773_comp.specs.declared.sending.Rejection.{Rejection as Rejected}
use Rattle.q773_comp.specs.Seen.{rejection}
use Rattle.tsl.specs.Transactions.{transaction_of}
use Rattle.dialogues.specs.Seen.{dialogue_with}
use Rattle.location.specs.Cancelling.{again, then_cancel}
use Rattle.location.specs.Seen.{one}
use Rattle.location.proofs.CancelLemmas.{expired_is}
use Rattle.location.proofs.expiry.cancel_expires.Goals as goal

pub returns-clause-leaves : goal.returns-clause-leaves
returns-clause-leaves c = λ here named vs own is current.
    let d = c.args.dialogue.now in
    let sent : one c.end_in_dialogue-message.result ≡ end_in_dialogue (transaction_of d.transaction) d.transaction.remote [] [] =
    c.end_in_dialogue-message.ensures ∙ ap (λ (r : List Rejected). end_in_dialogue (transaction_of d.transaction) d.transaction.remote
    (map rejection r) []) c.new.ensures.items in
    let next : c.again-next.result ≡ again c.args.last (is_wanted here c.args.last.vlr here.record_of) =
    c.again-next.ensures ∙ ap (again c.args.last) (c.is_wanted-wanted.ensures here current ∙ ap (is_wanted here c.args.last.vlr) (sym is)) in
    c.then_cancel.ensures.leaves here named [] own
    ∙ (λ i. then_cancel here here.record_of (sent i) (next i) c.args.new)
    ∙ expired_is here c.args.new (dialogue_with vs d) c.args.last
