-- Records that share no IMSI and no MSISDN share none in another order.
use Rattle.std.proofs.Common.{◌≡◌, ℕ, Bool, true, false, ◌||◌, List, [], ◌∷◌, refl, sym, ap, ◌∙◌, subst, inl, inr}
use Rattle.std.specs.Prelude.{Result, Ok, Err, IfOk, Some, slice_get}
use Rattle.std.specs.List.{AllByRecursion, IsDistinct}
use Rattle.std.specs.List.Sorted.{IsPermutation}
use Rattle.std.proofs.lemmas.Option.{same_Some}
use Rattle.std.proofs.lemmas.Map.Keys.{IsDistinct-IsPermutation}
use Rattle.machine.specs.Keys.{same}
use Rattle.machine_laws.proofs.Keys.{not_same, same_not, same_sym}
use Rattle.records.specs.File.{AreApart, File, Share}
use Rattle.records.specs.Maps.{digits_cmp}
use Rattle.records.specs.Subscriber.{Subscriber}
use Rattle.records.specs.Written.{saved_contents, saved_file}
use Rattle.shardlog.specs.Log.{Log}
use Rattle.audit.specs.Listing.{imsi_of, records_in}
use Rattle.audit.specs.Orders.{InOrder}
use Rattle.audit.specs.Saving.{SavedRegisterIsRead, Saves, SavesUnder}

share_test : Subscriber → Subscriber → Bool
share_test s t = same s.imsi t.imsi || same s.msisdn t.msisdn

flip : (a b : List ℕ) → same a b ≡ same b a
flip a b = sym (same_sym a b (same a b) refl)

flips : (s t : Subscriber) → share_test s t ≡ share_test t s
unfolding share_test
flips s t = λ i. flip s.imsi t.imsi i || flip s.msisdn t.msisdn i

or_false : (a b : Bool) → a ≡ false → b ≡ false → a || b ≡ false
or_false a b e f = (λ i. e i || f i)

neither : (a b : Bool) → a || b ≡ false → (a ≡ false) × (b ≡ false)
neither true b e = absurd cc
neither false b e = (refl, e)

tells : (s t : Subscriber) → ¬ (Share s t) → share_test s t ≡ false
unfolding share_test
tells s t h = or_false _ _ (not_same s.imsi t.imsi (λ e. h (inl e))) (not_same s.msisdn t.msisdn (λ e. h (inr e)))

told : (s t : Subscriber) → share_test s t ≡ false → ¬ (Share s t)
unfolding share_test
told s t e (inl h) = same_not s.imsi t.imsi (neither _ _ e).0 h
told s t e (inr h) = same_not s.msisdn t.msisdn (neither _ _ e).1 h

each_one : {X : Type 0} (P Q : X → Type 0) → ((x : X) → P x → Q x) → (xs : List X) → AllByRecursion P xs → AllByRecursion Q xs
each_one P Q f [] h = tt
each_one P Q f (x ∷ xs) h = (f x h.0, each_one P Q f xs h.1)

distinct : (ss : List Subscriber) → AreApart ss → IsDistinct share_test ss
unfolding IsDistinct
distinct [] h = tt
distinct (s ∷ ss) h = (each_one (λ t. ¬ (Share s t)) (λ t. share_test s t ≡ false) (tells s) ss h.0, distinct ss h.1)

apart : (ss : List Subscriber) → IsDistinct share_test ss → AreApart ss
unfolding IsDistinct
apart [] h = tt
apart (s ∷ ss) h = (each_one (λ t. share_test s t ≡ false) (λ t. ¬ (Share s t)) (told s) ss h.0, apart ss h.1)

pub apart_in_order : (ss ts : List Subscriber) → IsPermutation ss ts → AreApart ss → AreApart ts
apart_in_order ss ts p h = apart ts (IsDistinct-IsPermutation share_test flips ss ts p (distinct ss h))

pub saves : (hlr : List ℕ) (shards : List Log) (written : List ℕ) (records : List Subscriber)
    → InOrder imsi_of digits_cmp (records_in shards) records
    → written ≡ saved_file hlr records → (AreApart records → File written (saved_contents hlr records)) → SavesUnder hlr shards written
saves hlr shards written records ordered is again = record {
  records = records;
  ordered = ordered;
  file = is;
  again = λ h. again (apart_in_order (records_in shards) records ordered.same h);
}

-- whatever the result
pub saves_if_ok : {T F : Type 0} (bytes : T → List ℕ) (answer : Result T F) (shards : List Log) (first : Log) (hlr : List ℕ)
    (records : List Subscriber)
    → slice_get shards 0 ≡ Some first → hlr ≡ first.state.hlr → InOrder imsi_of digits_cmp (records_in shards) records
    → IfOk answer (λ text. bytes text ≡ saved_file hlr records)
    → (AreApart records → IfOk answer (λ text. File (bytes text) (saved_contents hlr records)))
    → IfOk answer (λ text. Saves shards (bytes text))
saves_if_ok bytes (Err refused) shards first hlr records at number ordered is again = tt
saves_if_ok bytes (Ok text) [] first hlr records at number ordered is again = absurd cc
saves_if_ok bytes (Ok text) (l ∷ ls) first hlr records at number ordered is again =
    let same : hlr ≡ l.state.hlr = number ∙ ap (λ (k : Log). k.state.hlr) (sym (same_Some l first at)) in
    subst (λ (h : List ℕ). SavesUnder h (l ∷ ls) (bytes text)) same (saves hlr (l ∷ ls) (bytes text) records ordered is again)

pub saved_is_read : SavedRegisterIsRead
saved_is_read l ls written saved apart = (saved.records, saved.ordered, saved.again apart)
