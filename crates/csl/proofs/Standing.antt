-- The invocation that stands under an id.
use Rattle.std.proofs.Common.{◌≡◌, ℕ, ℤ, List, [], ◌∷◌, ◌++◌, Option, Bool, true, cond, Some, None, refl, sym, ap, ◌∙◌, get_or}
use Rattle.std.specs.List.{position}
use Rattle.std.specs.Option.{is_some}
use Rattle.machine.specs.State.{Invocation}
use Rattle.machine.specs.Turns.{invocation_of}
use Rattle.csl.specs.Endings.{has_id}
use Rattle.csl.proofs.Places.{NoneHas, get_at, none_of, parts_of}

pub none_stands : (j : ℤ) (vs : List Invocation) → NoneHas j vs → invocation_of j vs ≡ None
none_stands j [] h = refl
none_stands j (v ∷ vs) h = ap (λ b. cond b (Some v) (invocation_of j vs)) h.0 ∙ none_stands j vs h.1

invocation_past : (j : ℤ) (front : List Invocation) (own : Invocation) (back : List Invocation) → NoneHas j front → has_id j own ≡ true
    → invocation_of j (front ++ own ∷ back) ≡ Some own
invocation_past j [] own back h e = ap (λ b. cond b (Some own) (invocation_of j back)) e
invocation_past j (v ∷ front) own back h e = ap (λ b. cond b (Some v) (invocation_of j (front ++ own ∷ back))) h.0 ∙ invocation_past j front own back h.1 e

pub stands_at : (j : ℤ) (vs : List Invocation) (place : ℕ) (v : Invocation) → position (has_id j) vs ≡ Some place → v ≡ get_or vs place v
    → invocation_of j vs ≡ Some v
stands_at j vs place v e is =
    let p = parts_of j vs place e in
    ap (invocation_of j) p.whole ∙ invocation_past j p.front p.own p.back p.others p.same
    ∙ ap (λ u. Some u) (sym (is ∙ ap (λ us. get_or us place v) p.whole ∙ ap (λ n. get_or (p.front ++ p.own ∷ p.back) n v) (sym p.at)
    ∙ get_at p.front p.own p.back v))

-- whether an id is in use
pub in_use : (j : ℤ) (vs : List Invocation) (o : Option ℕ) (b : Bool) → o ≡ position (has_id j) vs → is_some o ≡ b → is_some (invocation_of j vs) ≡ b
in_use j vs None b e s = ap is_some (none_stands j vs (none_of j vs (sym e))) ∙ s
in_use j vs (Some place) b e s =
    let p = parts_of j vs place (sym e) in
    ap (λ us. is_some (invocation_of j us)) p.whole ∙ ap is_some (invocation_past j p.front p.own p.back p.others p.same) ∙ s
