-- One more invocation after those of a rising list.
use Rattle.std.proofs.Common.{◌≡◌, ◌<ℤ◌, ◌≤ℤ◌, ℤ, Bool, true, false, not, ◌&&◌, List, [], ◌∷◌, ◌++◌, refl, sym, ap, ◌∙◌, subst, arith, int_lt}
use lib.Dec.{T}
use Rattle.std.proofs.lemmas.Int.{ints}
use Rattle.std.proofs.lemmas.Bool.{true≢false}
use Rattle.std.specs.List.{list_all}
use Rattle.std.specs.Int.Signed.{lt_z_yes, lt_z_no}
use Rattle.machine.specs.Effect.{AreRising}
use Rattle.machine.specs.Keys.{Every}
use Rattle.machine.specs.State.{Invocation}

abbrev pub is_below : ℤ → Invocation → Bool
is_below id = λ own. int_lt own.id id

test_of-less : (a b : ℤ) → a <ℤ b → int_lt a b ≡ true
test_of-less a b h = look (int_lt a b) refl
  where
    look : (c : Bool) → int_lt a b ≡ c → c ≡ true
    look true e = refl
    look false e = let no : b ≤ℤ a = lt_z_no (subst (λ c. T (not c)) (sym e) tt) in absurd (omega (arith, ints, h, no))

every_push : (Q : Invocation → Type 0) (us : List Invocation) (v : Invocation) → Every Q us → Q v → Every Q (us ++ v ∷ [])
every_push Q [] v each one = (one, tt)
every_push Q (u ∷ us) v each one = (each.0, every_push Q us v each.1 one)

every_last : (Q : Invocation → Type 0) (us : List Invocation) (v : Invocation) → Every Q (us ++ v ∷ []) → Q v
every_last Q [] v each = each.0
every_last Q (u ∷ us) v each = every_last Q us v each.1

pub rising_push : (v : Invocation) (vs : List Invocation) → list_all (is_below v.id) vs ≡ true → AreRising vs → AreRising (vs ++ v ∷ [])
rising_push v [] all up = (tt, tt)
rising_push v (u ∷ us) all up =
    let both = each (int_lt u.id v.id) (list_all (is_below v.id) us) all in
    (every_push (λ w. u.id <ℤ w.id) us v up.0 (lt_z_yes (subst T (sym both.0) tt)), rising_push v us both.1 up.1)
  where
    each : (b c : Bool) → (b && c) ≡ true → (b ≡ true) × (c ≡ true)
    each true c e = (refl, e)
    each false c e = absurd (true≢false (sym e))

pub push_above : (v : Invocation) (vs : List Invocation) → AreRising (vs ++ v ∷ []) → list_all (is_below v.id) vs ≡ true
push_above v [] up = refl
push_above v (u ∷ us) up =
    ap (λ b. b && list_all (is_below v.id) us) (test_of-less u.id v.id (every_last (λ w. u.id <ℤ w.id) us v up.0)) ∙ push_above v us up.1
