use Rattle.std.proofs.Common.{◌≡◌, [], true, false, None, option_map, ap, ◌∙◌}
use Rattle.machine.specs.State as machine
use Rattle.records.specs.Subscriber.{Subscriber}
use Rattle.smroute.specs.Seen.{machine_register, machine_subscriber}
use Rattle.location.specs.Cancelling.{then_cancel, to_last}
use Rattle.location.proofs.CancelLemmas.{withdrawn_is}
use Rattle.location.proofs.change.withdraw_from.Goals as goal

pub returns-clause-leaves : goal.returns-clause-leaves
returns-clause-leaves c = λ here own is.
    let view = c.subscriber.view_is in
    let next : c.to_last-next.result ≡ to_last (option_map machine_register c.args.subscriber.now.register) =
    c.to_last-next.ensures ∙ ap (λ (s : Subscriber). to_last (option_map machine_register s.register)) view in
    c.then_cancel.ensures.leaves here None [] (ap (λ (s : Subscriber). s.imsi) view ∙ own)
    ∙ (λ i. then_cancel here (option_map (λ (s : machine.Subscriber). record s { register = None; purged = false; current = None; withdrawn = true }) (is i)) []
    (next i) c.args.new)
    ∙ withdrawn_is here c.args.new (machine_subscriber c.args.subscriber.now) (option_map machine_register c.args.subscriber.now.register)
