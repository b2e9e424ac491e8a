-- What a result says of the form of the parameter, whatever the operation.
use Rattle.std.proofs.Common.{◌≡◌, ℕ, sym, ap, subst, refl}
use Rattle.std.specs.Prelude.{◌↔◌, Result, Ok, Err, IfOk}
use Rattle.x690.specs.Tree.{Tree}
use Rattle.machine.specs.Received.{Argument, BadValue, Update, Purge, Route, Parameter, Mistyped, Typed, Number}
use Rattle.frames.specs.ArgumentForms.{Arg, IsTyped, IsParameter}
use Rattle.mapargs_loc.specs.declared.fault.ArgFault.{ArgFault}
use Rattle.mapargs_loc.specs.declared.fault.ArgFault.TheVariants as fault
use Rattle.mapargs_loc.specs.Seen.{answer}

-- What is tied to the form: each parameter of the form is this one, and this one has the form.
pub record IsOnly (operation : ℕ) (t : Tree) (p : Parameter) : Type 0 where
  pub found : IsParameter (Number operation) t p
  pub again : (q : Parameter) → IsParameter (Number operation) t q → p ≡ q

pub answer-only : {A : Type 0} (argument : A → Argument) (operation : ℕ) (t : Tree) (r : Result A ArgFault) (p : Parameter)
    → answer argument r ≡ p → IsOnly operation t p → IsOnly operation t (answer argument r)
answer-only argument operation t r p is h = subst (IsOnly operation t) (sym is) h

pub found : {A : Type 0} (argument : A → Argument) (operation : ℕ) (t : Tree) (r : Result A ArgFault)
    → IsOnly operation t (answer argument r) → IfOk r (λ a. IsParameter (Number operation) t (Typed (argument a)))
found argument operation t (Ok a) h = h.found
found argument operation t (Err e) h = tt

is_argument : (operation : ℕ) (t : Tree) (a : Argument) → Arg operation t a → IsParameter (Number operation) t (Typed a)
is_argument operation t (Update imsi register) h = h
is_argument operation t (Purge imsi vlr) h = h
is_argument operation t (Route msisdn) h = h
is_argument operation t BadValue h = absurd h

pub only : {A : Type 0} (argument : A → Argument) (operation : ℕ) (t : Tree) (r : Result A ArgFault)
    → IsOnly operation t (answer argument r) → (a : Argument) → Arg operation t a → answer argument r ≡ Typed a
only argument operation t r h a is = h.again (Typed a) (is_argument operation t a is)

is_mistyped : {A : Type 0} (argument : A → Argument) (r : Result A ArgFault) → answer argument r ≡ Mistyped → r ≡ Err fault.Mistyped
is_mistyped argument (Ok a) e = absurd cc
is_mistyped argument (Err fault.Mistyped) e = refl
is_mistyped argument (Err fault.BadValue) e = absurd cc

pub mistyped : {A : Type 0} (argument : A → Argument) (operation : ℕ) (t : Tree) (r : Result A ArgFault)
    → IsOnly operation t (answer argument r) → (r ≡ Err fault.Mistyped) ↔ (IsTyped operation t → ⊥)
mistyped argument operation t r h = (
  λ e. subst (λ p. IsParameter (Number operation) t p) (ap (answer argument) e) h.found,
  λ is. is_mistyped argument r (h.again Mistyped is),
)

is_bad : {A : Type 0} (argument : A → Argument) → ((a : A) → argument a ≡ BadValue → ⊥) → (r : Result A ArgFault)
    → answer argument r ≡ Typed BadValue → r ≡ Err fault.BadValue
is_bad argument value (Ok a) e = absurd (value a (inside e))
  where
    inside : {x y : Argument} → Typed x ≡ Typed y → x ≡ y
    inside e = cc
is_bad argument value (Err fault.Mistyped) e = absurd cc
is_bad argument value (Err fault.BadValue) e = refl

pub bad_value : {A : Type 0} (argument : A → Argument) → ((a : A) → argument a ≡ BadValue → ⊥)
    → (operation : ℕ) (t : Tree) (r : Result A ArgFault) → IsOnly operation t (answer argument r)
    → (r ≡ Err fault.BadValue) ↔ (IsTyped operation t × ((a : Argument) → Arg operation t a → ⊥))
bad_value argument value operation t r h = (
  λ e. subst (λ p. IsParameter (Number operation) t p) (ap (answer argument) e) h.found,
  λ is. is_bad argument value r (h.again (Typed BadValue) is),
)
