-- What is read of an operator's change.
use Rattle.std.proofs.Common.{◌≡◌, List, [], ℕ, sym, ap, ◌∙◌}
use Rattle.std.specs.Prelude.{Option, Some, None, unwrap_or}
use Rattle.machine.specs.Events.{Codes}
use Rattle.frames.specs.Octets.{RawEvent, RawChange}

-- where a text is none of codes, it is no text of codes
pub none_only : {A B : Type 0} (o : Option A) (x : A) (raw : B) → o ≡ None → o ≡ Some x → None ≡ Some raw
none_only o x raw none some = absurd cc

some_is : (r : Option (List ℕ)) (x y : List ℕ) → r ≡ Some x → r ≡ Some y → x ≡ y
some_is r x y is other = ap (λ (o : Option (List ℕ)). unwrap_or o []) (sym is ∙ other)

pub same_change : (ri rc : Option (List ℕ)) (imsi digits codes list : List ℕ) (raw : RawEvent) → ri ≡ Some imsi → ri ≡ Some digits
    → rc ≡ Some codes → rc ≡ Some list → raw ≡ RawChange digits (Codes list) → Some (RawChange imsi (Codes codes)) ≡ Some raw
same_change ri rc imsi digits codes list raw i d c l is =
    let a : imsi ≡ digits = some_is ri imsi digits i d in
    let b : codes ≡ list = some_is rc codes list c l in
    let e : RawChange imsi (Codes codes) ≡ RawChange digits (Codes list) =
    ap (λ (x : List ℕ). RawChange x (Codes codes)) a ∙ ap (λ (y : List ℕ). RawChange digits (Codes y)) b in
    ap (λ (r : RawEvent). Some r) (e ∙ sym is)
