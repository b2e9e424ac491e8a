use Rattle.std.proofs.Common.{ap, ◌∙◌, cond, false, []}
use Rattle.deadlines.specs.Index.{has}
use Rattle.csl.specs.Tables.{is_only}
use Rattle.csl.proofs.Timing.{have_forgotten, have_none}
use Rattle.csl.proofs.invocations.Invocations.forget.Goals as goal

pub invariant_of-self : goal.invariant_of-self
invariant_of-self c = have_none c.self.inside.lists c.self.inside.timers c.args.id
    c.self.invariant c.in_default.ensures.none c.remove.new.self c.in_default.ensures.removed

pub invariant_of-self-2 : goal.invariant_of-self-2
invariant_of-self-2 c =
    let i = c.self.inside in
    have_forgotten i.lists i.timers c.args.id c.self.invariant c.remove_timers.new.timers
    (λ t. c.remove_timers.ensures t ∙ ap (λ vs. cond (is_only c.args.id vs [] t) false (has i.timers t))
    (c.deref.ensures ∙ c.in-Some.ensures.were)) c.remove.new.self c.in-Some.ensures.removed
