-- An invoke id is new, or in use.
use Rattle.std.proofs.Common.{◌≡◌, ℕ, ◌+◌, ◌*◌, ◌-◌, ◌/◌, ◌<ℤ◌, ℤ, List, [], ◌∷◌, Bool, true, false, cond, Option, Some, None, refl, sym, ap, ◌∙◌, subst, arith, int_eq, int_lt, Less, Equal, Greater, is_eq}
use lib.Dec.{T}
use Rattle.std.proofs.lemmas.Int.{ints}
use Rattle.std.specs.Prelude.{Result, Ok, Err, IsErrAnd, replicate}
use Rattle.std.specs.Option.{is_some}
use Rattle.std.specs.List.{position}
use Rattle.std.specs.Int.Signed.{lt_z_yes}
use Rattle.std.proofs.lemmas.List.{length-replicate}
use Rattle.machine.specs.Keys.{Every}
use Rattle.machine.specs.State.{Invocation}
use Rattle.machine.specs.Effect.{AreRising}
use Rattle.machine.specs.Outcome.{further}
use Rattle.machine_laws.proofs.Rising.{every_one, rising_inserts}
use Rattle.csl.specs.declared.fault.CslFault.{CslFault}
use Rattle.csl.specs.declared.fault.CslFault.TheVariants.{IdInUse, Memory}
use Rattle.csl.specs.Endings.{has_id}
use Rattle.csl.specs.Tables.{first_invoked, with_one}
use Rattle.csl.proofs.Places.{NoneHas, none_of}

pub memory_only : {T : Type 0} (r : Result T CslFault) → IsErrAnd r (λ fault. fault ≡ Memory) → r ≡ Err IdInUse → ⊥
memory_only (Ok x) h e = cc
memory_only (Err IdInUse) h e = cc
memory_only (Err Memory) h e = cc

-- the ids of the first ones ascend

pub first_rising : (now n : ℕ) → AreRising (first_invoked now n)
first_rising now n = subst (λ m. AreRising (first_invoked now m)) count (rising_inserts now (replicate (8 * n + 1) 0))
  where
    count : further (replicate (8 * n + 1) 0) ≡ n
    count = ap (λ l. (l - 1) / 8) (length-replicate (8 * n + 1) 0) ∙ omega arith

-- one more at its place

pub none_where_free : (j : ℤ) (vs : List Invocation) (o : Option ℕ) → o ≡ position (has_id j) vs → is_some o ≡ false → NoneHas j vs
none_where_free j vs None e s = none_of j vs (sym e)
none_where_free j vs (Some place) e s = cc

every_with_one : (Q : Invocation → Type 0) (own : Invocation) (vs : List Invocation) → Q own → Every Q vs → Every Q (with_one own vs)
every_with_one Q own [] q h = (q, tt)
every_with_one Q own (v ∷ vs) q h = by (int_lt own.id v.id) (every_with_one Q own vs q h.1)
  where
    by : (b : Bool) → Every Q (with_one own vs) → Every Q (cond b (own ∷ v ∷ vs) (v ∷ with_one own vs))
    by true r = (q, h)
    by false r = (h.0, r)

less : (a b : ℤ) → int_lt a b ≡ true → a <ℤ b
less a b e = lt_z_yes (subst T (sym e) tt)

-- of two different ids one is less
other_less : (a b : ℤ) → int_lt a b ≡ false → int_eq b a ≡ false → b <ℤ a
other_less a b l e = by (int_lt b a) refl e
  where
    by : (c : Bool) → int_lt b a ≡ c → is_eq (cond (int_lt b a) Less (cond (int_lt a b) Greater Equal)) ≡ false → b <ℤ a
    by true q n = less b a q
    by false q n = let same : true ≡ false = sym (ap (λ d. is_eq (cond d Less (cond (int_lt a b) Greater Equal))) q ∙ ap (λ d. is_eq (cond d Greater Equal)) l)
        ∙ n in cc

less_less : (a b c : ℤ) → a <ℤ b → b <ℤ c → a <ℤ c
less_less a b c h k = omega (arith, ints, h, k)

pub rising_with_one : (own : Invocation) (vs : List Invocation) → AreRising vs → NoneHas own.id vs → AreRising (with_one own vs)
rising_with_one own [] r h = (tt, tt)
rising_with_one own (v ∷ vs) r h = by (int_lt own.id v.id) refl (rising_with_one own vs r.1 h.1)
  where
    by : (b : Bool) → int_lt own.id v.id ≡ b → AreRising (with_one own vs) → AreRising (cond b (own ∷ v ∷ vs) (v ∷ with_one own vs))
    by true l rest = (
      (
        less own.id v.id l,
        every_one (λ u. v.id <ℤ u.id) (λ u. own.id <ℤ u.id)
            (λ u k. less_less own.id v.id u.id (less own.id v.id l) k) vs r.0,
      ),
      r,
    )
    by false l rest = (every_with_one (λ u. v.id <ℤ u.id) own vs (other_less own.id v.id l h.0) r.0, rest)
