use Rattle.std.proofs.Common.{ap, sym, ◌∙◌}
use Rattle.std.specs.FinMap as map
use Rattle.deadlines.specs.Timers.{DeadlineMap}
use Rattle.deadlines.proofs.Views.{get_view}
use Rattle.deadlines.proofs.KeyLemmas.{invocation_total}
use Rattle.deadlines.proofs.deadlines.Deadlines.get.Goals as goal

pub returns : goal.returns
returns c =
    c.copied.ensures ∙ c.get.ensures.value ∙ sym (get_view invocation_total c.self.inside.by_invocation.entries c.args.invocation)
    ∙ ap (λ (m : DeadlineMap). map.get m c.args.invocation) c.self.view_is
