-- What a Begin starts has an argument of its context's operation.
use Rattle.std.proofs.Common.{◌≡◌, ℕ, ℤ, List, [], ◌∷◌, Bool, true, false, cond, ◌==◌, refl, ap, ◌∙◌, Option, Some, None, is_some, eqb-true}
use Rattle.machine.specs.Received.{Bad, Code, Component, Ignored, Invoke, Mistyped, Number, Other, Parameter, Reject, ResultLast, ResultNotLast, ReturnError, Typed}
use Rattle.machine.specs.Bounds.{ComponentInBounds, ParameterInBounds, StartsOfOperation}
use Rattle.machine.specs.Sent.{Context}
use Rattle.machine.specs.Keys.{Every}
use Rattle.machine.specs.State.{Invocation}
use Rattle.machine.specs.Begins.{argument_of, offer_in}
use Rattle.machine.specs.Effect.{effect, is_operation, open_at, problem_of}
use Rattle.machine.specs.declared.numbers.TheConstants.{MISTYPED_PARAMETER, UNRECOGNIZED_OPERATION}
use Rattle.machine.specs.Contexts.{operation_of}
use Rattle.machine_laws.proofs.Keys.{none_some}

none_started : (k : ℤ) (Q : Type 0) → None ≡ Some k → Q
none_started k Q e = absurd (none_some k None refl e)

module _ (now : ℕ) (c : Context) (vs : List Invocation) (k : ℤ) where
  at_operation : (id : ℤ) (operation : Code) (parameter : Option Parameter) (cs : List Component) → ParameterInBounds operation parameter → (o : Option ℕ)
      → operation_of c ≡ o
      → cond (is_some (cond (is_operation o operation) (cond (is_some (argument_of (Invoke id None operation parameter))) None (Some MISTYPED_PARAMETER))
      (Some UNRECOGNIZED_OPERATION))) None (Some id) ≡ Some k
      → StartsOfOperation c (Invoke id None operation parameter ∷ cs)
  at_operation id operation parameter cs h None q e = none_started k _ e
  at_operation id Other parameter cs h (Some o) q e = none_started k _ e
  at_operation id (Number n) None cs h (Some o) q e = by (o == n) e
    where
      by : (b : Bool) → cond (is_some (cond b (Some MISTYPED_PARAMETER) (Some UNRECOGNIZED_OPERATION))) None (Some id) ≡ Some k
          → StartsOfOperation c (Invoke id None (Number n) None ∷ cs)
      by true e = none_started k _ e
      by false e = none_started k _ e
  at_operation id (Number n) (Some Mistyped) cs h (Some o) q e = by (o == n) e
    where
      by : (b : Bool) → cond (is_some (cond b (Some MISTYPED_PARAMETER) (Some UNRECOGNIZED_OPERATION))) None (Some id) ≡ Some k
          → StartsOfOperation c (Invoke id None (Number n) (Some Mistyped) ∷ cs)
      by true e = none_started k _ e
      by false e = none_started k _ e
  at_operation id (Number n) (Some (Typed p)) cs h (Some o) q e = by (o == n) refl e
    where
      by : (b : Bool) → (o == n) ≡ b → cond (is_some (cond b None (Some UNRECOGNIZED_OPERATION))) None (Some id) ≡ Some k
          → StartsOfOperation c (Invoke id None (Number n) (Some (Typed p)) ∷ cs)
      by true z e = record { operation = n; argument = p; of_context = q ∙ ap (λ (m : ℕ). Some m) (eqb-true o n z); is_first = refl; of_operation = h.1 }
      by false z e = none_started k _ e

  pub starts_of_operation : (cs : List Component) → Every ComponentInBounds cs → (effect now (offer_in c cs) vs cs).started ≡ Some k → StartsOfOperation c cs
  unfolding effect
  starts_of_operation [] h e = none_started k _ e
  starts_of_operation (Invoke id (Some l) operation parameter ∷ cs) h e = by (open_at {P = Parameter} vs [] l) e
    where
      by : (b : Bool) → cond (is_some (problem_of (offer_in c (Invoke id (Some l) operation parameter ∷ cs)) false (Some b) operation true)) None (Some id)
          ≡ Some k → StartsOfOperation c (Invoke id (Some l) operation parameter ∷ cs)
      by true q = none_started k _ q
      by false q = none_started k _ q
  starts_of_operation (Invoke id None operation parameter ∷ cs) h e = at_operation id operation parameter cs h.0.1 (operation_of c) refl e
  starts_of_operation (ResultLast id ∷ cs) h e = none_started k _ e
  starts_of_operation (ResultNotLast id ∷ cs) h e = none_started k _ e
  starts_of_operation (ReturnError id error ∷ cs) h e = none_started k _ e
  starts_of_operation (Reject id side problem ∷ cs) h e = none_started k _ e
  starts_of_operation (Bad id problem ∷ cs) h e = none_started k _ e
  starts_of_operation (Ignored ∷ cs) h e = none_started k _ e
