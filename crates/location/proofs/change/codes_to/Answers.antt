use Rattle.std.proofs.Common.{◌≡◌, false, Some, None, option_map, ap, sym, ◌∙◌}
use Rattle.machine.specs.State as machine
use Rattle.records.specs.Subscriber.{Subscriber}
use Rattle.smroute.specs.Seen.{machine_register, machine_subscriber}
use Rattle.location.proofs.ChangeLemmas.{codes_told}
use Rattle.location.proofs.change.codes_to.Goals as goal

pub returns-in-Some-clause-leaves : goal.returns-in-Some-clause-leaves
returns-in-Some-clause-leaves c = λ here own is.
    let view = c.subscriber.view_is in
    let registered : option_map machine_register c.args.subscriber.now.register ≡ Some (machine_register c.in-Some.register) =
    ap (λ (s : Subscriber). option_map machine_register s.register) (sym view) ∙ ap (option_map machine_register) c.in-Some.is in
    let not_purged : c.args.subscriber.now.purged ≡ false = ap (λ (s : Subscriber). s.purged) (sym view) ∙ c.if-not-subscriber.true in
    (λ i. record {
      after = option_map (λ (s : machine.Subscriber). record s { codes = c.args.codes; current = None }) (is i);
      stays = None;
      opens = Some (c.data_to.ensures here (ap (λ (s : Subscriber). s.imsi) view ∙ own) i);
      sent = c.data_begin.ensures here own i;
    })
    ∙ codes_told here (machine_subscriber c.args.subscriber.now) c.args.codes c.args.new (machine_register c.in-Some.register)
    (option_map machine_register c.args.subscriber.now.register) registered not_purged
