use Rattle.std.proofs.Common.{ap, sym, ◌∙◌}
use Rattle.machine.specs.State.{any_sent}
use Rattle.csl.proofs.Places.{any_sent_is}
use Rattle.csl.proofs.remaining.Remaining.any_sent.Goals as goal

pub returns : goal.returns
returns c = c.any_sent.ensures ∙ sym (any_sent_is c.deref.result.now) ∙ ap any_sent (c.deref.ensures ∙ c.self.view_is)
