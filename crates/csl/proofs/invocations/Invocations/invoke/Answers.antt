use Rattle.std.proofs.Common.{◌≡◌, sym, ap, ◌∙◌, subst, refl, true, false}
use Rattle.std.proofs.lemmas.Int.{to_z-of_z}
use Rattle.std.specs.Option.{is_some}
use Rattle.machine.specs.Effect.{AreRising}
use Rattle.machine.specs.Outcome.{invoked}
use Rattle.machine.specs.Turns.{invocation_of}
use Rattle.csl.specs.Tables.{InvocationLists, invocations_at}
use Rattle.csl.proofs.Places.{NoneHas}
use Rattle.csl.proofs.Standing.{in_use}
use Rattle.csl.proofs.Invoking.{memory_only, none_where_free, rising_with_one}
use Rattle.csl.proofs.invocations.Invocations.invoke.Goals as goal

pub returns-then-is_some-clause-in_use : goal.returns-then-is_some-clause-in_use
returns-then-is_some-clause-in_use c =
    let fits = c.ranges.invoke in
    let used = in_use c.args.invoke c.at-list.result.now c.place_of.result true (simp to_z-of_z at c.place_of.ensures)
    (sym c.is_some.ensures ∙ c.if-is_some.true) in
    let list = c.at-list.ensures.value ∙ ap (λ (l : InvocationLists). invocations_at l c.args.id) c.self.view_is in
    (λ _. sym (ap (λ vs. is_some (invocation_of c.args.invoke vs)) list) ∙ used, λ _. refl)

pub returns-in_err-longer-clause-in_use : goal.returns-in_err-longer-clause-in_use
returns-in_err-longer-clause-in_use c =
    let fits = c.ranges.invoke in
    let free = in_use c.args.invoke c.at-list.result.now c.place_of.result false (simp to_z-of_z at c.place_of.ensures)
    (sym c.is_some.ensures ∙ c.if-is_some.false) in
    let list = c.at-list.ensures.value ∙ ap (λ (l : InvocationLists). invocations_at l c.args.id) c.self.view_is in
    let is_free = sym (ap (λ vs. is_some (invocation_of c.args.invoke vs)) list) ∙ free in
    (λ e. absurd (memory_only c.from_residual.result c.from_residual.ensures.1 e), λ h. let taken : true ≡ false = sym h ∙ is_free in cc)

pub replace-requires : goal.replace-requires
replace-requires c =
    let fits = c.ranges.invoke in
    let none = none_where_free c.args.invoke c.at-list.result.now c.place_of.result (simp to_z-of_z at c.place_of.ensures)
    (sym c.is_some.ensures ∙ c.if-is_some.false) in
    let sent : c.sent-own.result ≡ invoked c.args.now c.args.invoke = simp to_z-of_z at c.sent-own.ensures in
    let id : c.sent-own.result.id ≡ c.args.invoke = λ i. (sent i).id in
    subst AreRising (sym c.in_ok-longer.ensures) (rising_with_one c.sent-own.result c.at-list.result.now c.at-list.ensures.rising
    (subst (λ j. NoneHas j c.at-list.result.now) (sym id) none))

pub returns-in_err-replace-clause-in_use : goal.returns-in_err-replace-clause-in_use
returns-in_err-replace-clause-in_use c =
    let fits = c.ranges.invoke in
    let free = in_use c.args.invoke c.at-list.result.now c.place_of.result false (simp to_z-of_z at c.place_of.ensures)
    (sym c.is_some.ensures ∙ c.if-is_some.false) in
    let list = c.at-list.ensures.value ∙ ap (λ (l : InvocationLists). invocations_at l c.args.id) c.self.view_is in
    let is_free = sym (ap (λ vs. is_some (invocation_of c.args.invoke vs)) list) ∙ free in (
      λ e. absurd (memory_only c.from_residual-in_err-replace.result c.from_residual-in_err-replace.ensures.1 e),
      λ h. let taken : true
          ≡ false = sym h ∙ is_free in cc,
    )

pub returns-clause-in_use : goal.returns-clause-in_use
returns-clause-in_use c =
    let fits = c.ranges.invoke in
    let free = in_use c.args.invoke c.at-list.result.now c.place_of.result false (simp to_z-of_z at c.place_of.ensures)
    (sym c.is_some.ensures ∙ c.if-is_some.false) in
    let list = c.at-list.ensures.value ∙ ap (λ (l : InvocationLists). invocations_at l c.args.id) c.self.view_is in
    let is_free = sym (ap (λ vs. is_some (invocation_of c.args.invoke vs)) list) ∙ free in
    (λ e. cc, λ h. let taken : true ≡ false = sym h ∙ is_free in cc)
