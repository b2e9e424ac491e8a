use Rattle.std.proofs.Common.{sym, ap, ◌∙◌, subst}
use Rattle.std.proofs.lemmas.Int.{to_z-of_z}
use Rattle.std.specs.Option.{IsSome}
use Rattle.std.specs.Prelude.{FitsSigned}
use Rattle.std.specs.Int.{w8}
use Rattle.csl.specs.Tables.{HaveTimers, InvocationLists, invocations_at}
use Rattle.csl.proofs.Expiry.{is_next, none_due, place_there}
use Rattle.csl.proofs.invocations.Invocations.first_due.Goals as goal

pub returns-in_default-clause-none : goal.returns-in_default-clause-none
returns-in_default-clause-none c = none_due c.args.self.now c.self.inside.timers c.args.now
    (subst (λ l. HaveTimers l c.self.inside.timers) c.self.view_is c.self.invariant) c.in_default.ensures.none

pub unwrap-place-requires : goal.unwrap-place-requires
unwrap-place-requires c =
    let fits : FitsSigned w8 c.in-Some.least.invocation.invoke = search in
    let least = c.in-Some.least in
    let there = place_there least.invocation.invoke (invocations_at c.self.inside.lists least.invocation.id) least.deadline
    (sym (c.self.invariant least) ∙ c.in-Some.ensures.due.one) in
    subst IsSome (sym (simp (to_z-of_z, c.at-list.ensures.value) at c.place_of.ensures)) there

pub returns-clause-due : goal.returns-clause-due
returns-clause-due c =
    let fits : FitsSigned w8 c.in-Some.least.invocation.invoke = search in
    let least = c.in-Some.least in
    let have = subst (λ l. HaveTimers l c.self.inside.timers) c.self.view_is c.self.invariant in
    let list = c.at-list.ensures.value ∙ ap (λ (l : InvocationLists). invocations_at l least.invocation.id) c.self.view_is in
    rw to_z-of_z (is_next c.args.self.now c.self.inside.timers c.args.now have least.deadline
    least.invocation.id least.invocation.invoke c.in-Some.ensures.due c.at-list.result.now list c.at-list.ensures.rising c.unwrap-place.result
    (sym (simp to_z-of_z at c.place_of.ensures) ∙ c.unwrap-place.ensures) c.index-list-place.result c.index-list-place.is _ (sym c.was.ensures))
