use Rattle.std.proofs.Common.{◌≡◌, ◌++◌, ◌∷◌, [], true, refl, ap, sym, subst, ◌∙◌}
use Rattle.std.proofs.lemmas.Bool.{true≢false}
use Rattle.std.proofs.lemmas.Int.{to_z-of_z}
use Rattle.std.specs.List.{list_all}
use Rattle.machine.specs.Effect.{AreRising}
use Rattle.machine.specs.State.{Invocation}
use Rattle.csl.specs.Seen.{invocation_of}
use Rattle.csl.proofs.Rising.{is_below, rising_push, push_above}
use Rattle.csl.proofs.remaining.Remaining.push.Goals as goal

pub returns-then-not-is_above-clause-above : goal.returns-then-not-is_above-clause-above
returns-then-not-is_above-clause-above c =
    let fits = c.ranges.id in
    let is : c.is_above.result ≡ list_all (is_below c.args.id) c.args.self.now = simp to_z-of_z at c.is_above.ensures in (
      λ yes. absurd (true≢false (sym yes)),
      λ up. absurd (true≢false (sym (push_above (invocation_of c.args.id c.args.was c.args.deadline) c.args.self.now up) ∙ sym is
          ∙ c.if-not-is_above.true)),
    )

pub invariant_of-self-2 : goal.invariant_of-self-2
invariant_of-self-2 c =
    let fits = c.ranges.id in
    let old = c.self.inside.list.items in
    let v = invocation_of c.args.id c.args.was c.args.deadline in
    let is : c.is_above.result ≡ list_all (is_below c.args.id) c.args.self.now = simp to_z-of_z at c.is_above.ensures in
    let above : list_all (is_below c.args.id) old ≡ true = ap (list_all (is_below c.args.id)) c.self.view_is ∙ sym is ∙ c.if-not-is_above.false in
    let new : c.new.result ≡ v = simp to_z-of_z at c.new.ensures in
    let longer : c.push.new.self.items ≡ old ++ v ∷ [] = c.in_ok-push.ensures.ok ∙ ap (λ (w : Invocation). old ++ w ∷ []) new in
    subst AreRising (sym longer) (rising_push v old above c.self.invariant)

pub returns-clause-above : goal.returns-clause-above
returns-clause-above c =
    let fits = c.ranges.id in
    let v = invocation_of c.args.id c.args.was c.args.deadline in
    let is : c.is_above.result ≡ list_all (is_below c.args.id) c.args.self.now = simp to_z-of_z at c.is_above.ensures in
    (λ _. rising_push v c.args.self.now (sym is ∙ c.if-not-is_above.false) (subst AreRising c.self.view_is c.self.invariant), λ _. refl)
