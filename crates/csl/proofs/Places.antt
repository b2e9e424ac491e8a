-- The place of an invocation in a dialogue's list.
use Rattle.std.proofs.Common.{◌≡◌, ℕ, ◌+◌, ◌<◌, ◌≤◌, ℤ, List, [], ◌∷◌, ◌++◌, length, Bool, true, false, cond, not, ◌||◌, Some, None, refl, sym, ap, ◌∙◌, subst, get_or, set, suc, arith, take, drop, nat_lt, ◌-◌}
use Rattle.std.specs.List.{position, position_or_len, remove, list_any}
use lib.Dec.{T}
use Rattle.std.proofs.Math.Facts.{yes_ltb, ltb_yes}
use Rattle.std.proofs.lemmas.List.{take_rest}
use Rattle.machine.specs.Keys.{Every}
use Rattle.machine.specs.State.{Invocation, is_sent, any_sent}
use Rattle.machine.specs.Effect.{in_sent}
use Rattle.machine_laws.proofs.Folding.{not_in_sent}
use Rattle.std.specs.Prelude.{int_lt, unwrap_or}
use Rattle.csl.specs.Endings.{has_id}
use Rattle.csl.specs.Tables.{with_one}

-- no invocation has the id
abbrev pub NoneHas : ℤ → List Invocation → Type 0
NoneHas id vs = Every (λ (u : Invocation). has_id id u ≡ false) vs

-- the first invocation with an id, and the others around it
pub record Parts (id : ℤ) (vs : List Invocation) (place : ℕ) : Type 0 where
  pub front : List Invocation
  pub own : Invocation
  pub back : List Invocation
  pub whole : vs ≡ front ++ own ∷ back
  pub at : length front ≡ place
  pub same : has_id id own ≡ true
  pub others : NoneHas id front

parts_from : (id : ℤ) (vs : List Invocation) → position_or_len (has_id id) vs < length vs → Parts id vs (position_or_len (has_id id) vs)
parts_from id [] h = absurd (omega arith)
parts_from id (v ∷ vs) h = by (has_id id v) refl h (λ l. parts_from id vs l)
  where
    by : (b : Bool) → has_id id v ≡ b → cond (not b) (1 + position_or_len (has_id id) vs) 0 < length (v ∷ vs)
        → (position_or_len (has_id id) vs < length vs → Parts id vs (position_or_len (has_id id) vs))
        → Parts id (v ∷ vs) (cond (not b) (1 + position_or_len (has_id id) vs) 0)
    by true e l rest = record { front = []; own = v; back = vs; whole = refl; at = refl; same = e; others = tt }
    by false e l rest =
        let p = rest (omega arith) in
        record {
          front = v ∷ p.front;
          own = p.own;
          back = p.back;
          whole = ap (λ us. v ∷ us) p.whole;
          at = omega (arith, p.at);
          same = p.same;
          others =
              (e, p.others);
        }

none_from : (id : ℤ) (vs : List Invocation) → (position_or_len (has_id id) vs < length vs → ⊥) → NoneHas id vs
none_from id [] h = tt
none_from id (v ∷ vs) h = by (has_id id v) refl h (λ l. none_from id vs l)
  where
    by : (b : Bool) → has_id id v ≡ b → (cond (not b) (1 + position_or_len (has_id id) vs) 0 < length (v ∷ vs) → ⊥)
        → ((position_or_len (has_id id) vs < length vs → ⊥) → NoneHas id vs) → (has_id id v ≡ false) × NoneHas id vs
    by true e l rest = absurd (l (omega arith))
    by false e l rest = (e, rest (λ k. l (omega arith)))

-- an id has a place, or no invocation has it
pub parts_of : (id : ℤ) (vs : List Invocation) (place : ℕ) → position (has_id id) vs ≡ Some place → Parts id vs place
parts_of id vs place e = by (nat_lt (position_or_len (has_id id) vs) (length vs)) refl e
  where
    by : (b : Bool) → nat_lt (position_or_len (has_id id) vs) (length vs) ≡ b → cond b (Some (position_or_len (has_id id) vs)) None ≡ Some place
        → Parts id vs place
    by true l s = let at : position_or_len (has_id id) vs ≡ place = cc in subst (Parts id vs) at (parts_from id vs (ltb_yes (subst T (sym l) tt)))
    by false l s = cc

pub none_of : (id : ℤ) (vs : List Invocation) → position (has_id id) vs ≡ None → NoneHas id vs
none_of id vs e = by (nat_lt (position_or_len (has_id id) vs) (length vs)) refl e
  where
    by : (b : Bool) → nat_lt (position_or_len (has_id id) vs) (length vs) ≡ b → cond b (Some (position_or_len (has_id id) vs)) None ≡ None → NoneHas id vs
    by true l s = cc
    by false l s = none_from id vs (λ k. subst T l (yes_ltb k))

-- the place, in the list

pub get_at : (front : List Invocation) (own : Invocation) (back : List Invocation) (d : Invocation) → get_or (front ++ own ∷ back) (length front) d ≡ own
get_at [] own back d = refl
get_at (v ∷ front) own back d = get_at front own back d

pub set_at : (front : List Invocation) (own : Invocation) (back : List Invocation) (v : Invocation)
    → set (front ++ own ∷ back) (length front) v ≡ front ++ v ∷ back
set_at [] own back v = refl
set_at (u ∷ front) own back v = ap (λ us. u ∷ us) (set_at front own back v)

pub remove_at : (front : List Invocation) (own : Invocation) (back : List Invocation) → remove (front ++ own ∷ back) (length front) ≡ front ++ back
remove_at [] own back = refl
remove_at (u ∷ front) own back = ap (λ us. u ∷ us) (remove_at front own back)

-- whether one is in Operation Sent

pub in_sent_absent : (id : ℤ) (vs : List Invocation) → position (has_id id) vs ≡ None → in_sent id vs ≡ false
in_sent_absent id vs e = not_in_sent id vs (none_of id vs e)

in_sent_past : (id : ℤ) (front back : List Invocation) → NoneHas id front → in_sent id (front ++ back) ≡ in_sent id back
in_sent_past id [] back h = refl
in_sent_past id (v ∷ front) back h = ap (λ b. cond b (is_sent v.was) (in_sent id (front ++ back))) h.0 ∙ in_sent_past id front back h.1

pub in_sent_at : (id : ℤ) (vs : List Invocation) (place : ℕ) (v : Invocation) → position (has_id id) vs ≡ Some place → v ≡ get_or vs place v
    → in_sent id vs ≡ is_sent v.was
in_sent_at id vs place v e is =
    let p = parts_of id vs place e in
    ap (in_sent id) p.whole ∙ in_sent_past id p.front (p.own ∷ p.back) p.others ∙ ap (λ b. cond b (is_sent p.own.was) (in_sent id p.back)) p.same
    ∙ sym (ap (λ (u : Invocation). is_sent u.was) (is ∙ ap (λ us. get_or us place v) p.whole ∙ ap (λ n. get_or (p.front ++ p.own ∷ p.back) n v) (sym p.at)
    ∙ get_at p.front p.own p.back v))

pub any_sent_is : (vs : List Invocation) → any_sent vs ≡ list_any (λ (v : Invocation). is_sent v.was) vs
any_sent_is [] = refl
any_sent_is (v ∷ vs) = ap (cond (is_sent v.was) true) (any_sent_is vs) ∙ either (is_sent v.was) (list_any (λ (u : Invocation). is_sent u.was) vs)
  where
    either : (a b : Bool) → cond a true b ≡ (a || b)
    either true b = refl
    either false b = refl

-- one more, at its place

abbrev pub is_above : Invocation → Invocation → Bool
is_above own v = int_lt own.id v.id

above_all : (own : Invocation) (vs : List Invocation) → position_or_len (is_above own) vs ≤ length vs
above_all own [] = omega arith
above_all own (v ∷ vs) = by (is_above own v) (above_all own vs)
  where
    by : (b : Bool) → position_or_len (is_above own) vs ≤ length vs → cond (not b) (1 + position_or_len (is_above own) vs) 0 ≤ length (v ∷ vs)
    by true h = omega arith
    by false h = omega arith

first_above : (own : Invocation) (vs : List Invocation) → unwrap_or (position (is_above own) vs) (length vs) ≡ position_or_len (is_above own) vs
first_above own vs = by (nat_lt (position_or_len (is_above own) vs) (length vs)) refl
  where
    by : (b : Bool) → nat_lt (position_or_len (is_above own) vs) (length vs) ≡ b
        → unwrap_or (cond b (Some (position_or_len (is_above own) vs)) None) (length vs) ≡ position_or_len (is_above own) vs
    by true e = refl
    by false e =
        let not_below : position_or_len (is_above own) vs < length vs → ⊥ = λ l. subst T e (yes_ltb l) in
        omega (arith, above_all own vs, not_below)

put_above : (own : Invocation) (vs : List Invocation) → take (position_or_len (is_above own) vs) vs ++ own ∷ drop (position_or_len (is_above own) vs) vs
    ≡ with_one own vs
put_above own [] = refl
put_above own (v ∷ vs) = by (is_above own v) (put_above own vs)
  where
    by : (b : Bool) → take (position_or_len (is_above own) vs) vs ++ own ∷ drop (position_or_len (is_above own) vs) vs ≡ with_one own vs
        → take (cond (not b) (1 + position_or_len (is_above own) vs) 0) (v ∷ vs) ++ own ∷ drop (cond (not b) (1 + position_or_len (is_above own) vs) 0) (v ∷ vs)
        ≡ cond b (own ∷ v ∷ vs) (v ∷ with_one own vs)
    by true h = refl
    by false h =
        let more : 1 + position_or_len (is_above own) vs ≡ suc (position_or_len (is_above own) vs) = omega arith in
        ap (λ n. take n (v ∷ vs) ++ own ∷ drop n (v ∷ vs)) more ∙ ap (λ us. v ∷ us) h

pub with_one_at : (own : Invocation) (vs : List Invocation) (n : ℕ) → n ≡ unwrap_or (position (is_above own) vs) (length vs)
    → take n vs ++ own ∷ drop n vs ≡ with_one own vs
with_one_at own vs n e = ap (λ m. take m vs ++ own ∷ drop m vs) (e ∙ first_above own vs) ∙ put_above own vs

-- all but the first, as the code has them

abbrev pub rest_of : {A : Type 0} → List A → List A
rest_of vs = take (length vs - 1) (drop 1 vs)

pub first_of : {A : Type 0} (vs : List A) (own : A) → 1 ≤ length vs → own ≡ get_or vs 0 own → vs ≡ own ∷ rest_of vs
first_of {A} vs own l e = by vs l e ∙ ap (λ us. own ∷ us) (sym (take_rest vs 1))
  where
    by : (us : List A) → 1 ≤ length us → own ≡ get_or us 0 own → us ≡ own ∷ drop 1 us
    by [] l e = absurd (omega (arith, l))
    by (v ∷ us) l e = ap (λ u. u ∷ us) (sym e)

pub none_first : {A : Type 0} (vs : List A) → length vs < 1 → vs ≡ []
none_first [] h = refl
none_first (v ∷ vs) h = absurd (omega arith)
