use Rattle.std.proofs.Common.{◌∙◌, ◌++◌, None, Some, ap, sym}
use Rattle.location.specs.Cancelling.{then_cancel}
use Rattle.location.specs.Seen.{after_of, one}
use Rattle.location.proofs.cancels.then_cancel.Goals as goal

pub returns-in-Some-clause-leaves : goal.returns-in-Some-clause-leaves
returns-in-Some-clause-leaves c = λ here named codes own.
    (λ i. record {
      after = after_of codes c.args.after here.record_of;
      stays = None;
      opens = Some (c.cancel.ensures here own i);
      sent = one c.args.message ++ c.cancel_begin.ensures here own i;
    })
    ∙ ap (λ next. then_cancel here (after_of codes c.args.after here.record_of) (one c.args.message) next c.args.new) (sym c.in-Some.is)
