use Rattle.std.proofs.Common.{◌≡◌, List, [], ◌∷◌, false, Some, None, map, option_map, ap, ◌∙◌}
use Rattle.machine.specs.State as machine
use Rattle.machine.specs.Sent.{SentComponent, Out, UpdateResult}
use Rattle.machine.specs.Outcome.{end_in_dialogue}
use Rattle.q773_comp.specs.Seen.{rejection}
use Rattle.tsl.specs.Transactions.{transaction_of}
use Rattle.mapargs_loc.specs.Seen.{register as register_of}
use Rattle.records.specs.Subscriber.{Subscriber}
use Rattle.smroute.specs.Seen.{machine_register, machine_subscriber}
use Rattle.location.specs.Cancelling.{then_cancel, to_old}
use Rattle.location.specs.Seen.{one}
use Rattle.location.proofs.CancelLemmas.{done_is}
use Rattle.location.proofs.update_end.update_done.Goals as goal

pub returns-clause-leaves : goal.returns-clause-leaves
returns-clause-leaves c = λ here named own is.
    let view = c.subscriber.view_is in
    let d = c.args.dialogue.now in
    let ended_with : SentComponent → List Out = λ k. end_in_dialogue (transaction_of d.transaction) d.transaction.remote (map rejection c.args.rejects.items)
    (k ∷ []) in
    let sent : one c.end_in_dialogue-message.result ≡ ended_with (UpdateResult c.args.update.invoke c.args.hlr) = c.end_in_dialogue-message.ensures
    ∙ ap ended_with c.update_result.ensures in
    let next : c.to_old-next.result ≡ to_old (register_of c.args.update.register) (option_map machine_register c.args.subscriber.now.register) =
    c.to_old-next.ensures ∙ ap (λ (s : Subscriber). to_old (register_of c.args.update.register) (option_map machine_register s.register)) view in
    c.then_cancel.ensures.leaves here named [] own
    ∙ (λ i. then_cancel here (option_map (λ (s : machine.Subscriber). record s {
      register = Some
          (register_of c.args.update.register);
      purged = false;
      current = None;
    }) (is i)) (sent i) (next i) c.args.new)
    ∙ done_is here c.args.new (register_of c.args.update.register) (machine_subscriber c.args.subscriber.now)
    (ended_with (UpdateResult c.args.update.invoke c.args.hlr)) (option_map machine_register c.args.subscriber.now.register)
