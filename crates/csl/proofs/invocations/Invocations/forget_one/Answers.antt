use Rattle.std.proofs.Common.{sym, ap, ◌∙◌}
use Rattle.std.proofs.lemmas.Int.{to_z-of_z}
use Rattle.std.specs.FinSet as set
use Rattle.machine_laws.proofs.Rising.{rising_map}
use Rattle.csl.proofs.Timing.{have_one_less, have_as_many}
use Rattle.csl.proofs.invocations.Invocations.forget_one.Goals as goal

pub invariant_of-self : goal.invariant_of-self
invariant_of-self c =
    let fits = c.ranges.invoke in
    let i = c.self.inside in
    have_one_less i.lists i.timers c.args.id c.self.invariant c.args.invoke c.in-Some.own c.remove.new.self (rising_map _ c.remove_one.ensures.rising)
    (sym (simp to_z-of_z at c.remove_one.ensures.was) ∙ c.in-Some.is) (c.remove.ensures ∙ ap (set.remove i.timers) c.timer.ensures)
    c.remove_one.new.self (simp to_z-of_z at c.remove_one.ensures.removed)

pub invariant_of-self-in_default : goal.invariant_of-self-in_default
invariant_of-self-in_default c =
    let fits = c.ranges.invoke in
    let i = c.self.inside in
    have_as_many i.lists i.timers c.args.id c.self.invariant c.args.invoke c.remove_one.new.self
    (sym (simp to_z-of_z at c.remove_one.ensures.was) ∙ c.in_default.is) (simp to_z-of_z at c.remove_one.ensures.removed)
