-- What a field reads to is what it stands for.
use Rattle.std.proofs.Common.{◌≡◌, ℕ, ◌+◌, ◌-◌, ◌<◌, ◌≤◌, Bool, true, false, cond, List, [], ◌∷◌, ◌++◌, length, map, refl, sym, ap, subst, ◌∙◌, arith, inl, inr, append_assoc}
use Rattle.std.specs.Prelude.{◌&&◌, ◌==◌, ◌⊎◌, nat_le, nat_lt, nat_eq, Option, Some, None, Result, Ok, Err, option_map, slice_index, codes}
use Rattle.std.specs.List.{list_all, list_any, join_with_byte, IsDistinct}
use Rattle.std.specs.Result.{result_ok}
use Rattle.std.specs.Cmp.{nat_eq_equiv}
use Rattle.std.proofs.lemmas.Bool.{and_parts, leb-true, ltb-true, false≢true, eqb-true, ne_eqb, eqb-false, or_parts, or_from}
use Rattle.std.proofs.lemmas.Option.{cond_some}
use Rattle.std.proofs.lemmas.List.{append-nil, length_push}
use Rattle.std.proofs.lemmas.List.Splits.{join_with_byte-slice_split}
use Rattle.std.proofs.lemmas.Map.Keys.{IsDistinct-push}
use Rattle.hex.specs.Hex.{decode_of, decode_sized}
use Rattle.hex.proofs.HexLemmas.{decode_sized-ok, decode_sized-twice, decode_of-ok}
use Rattle.hlr_types.specs.Digits.{AreSomeDigits}
use Rattle.hlr_types.specs.DigitTexts.{digits_in, is_digit, text_of}
use Rattle.hlr_types.proofs.TextLemmas.{are_some_digits, is_digit_bounds}
use Rattle.texts.specs.Lines.{parts}
use Rattle.records.specs.Reading.{◌>>=◌, is_text, octet_in, codes_after, codes_in, prefixes_after, roam_in, purged_in, withdrawn_in, lmsi_in, register_of, register_in}
use Rattle.records.specs.Spelling.{IsNumber, IsCode, Each, IsCodes, IsRoam, IsLmsiField, IsRegister, purged_text, withdrawn_text}
use Rattle.hlr_types.specs.declared.register.Register.{Register}
use Rattle.texts.proofs.PartsLemmas.{parts_cons}

-- ---- steps

pub bind_some : {A B : Type 0} (o : Option A) (f : A → Option B) (y : B) → (o >>= f) ≡ Some y → (x : A) × (o ≡ Some x) × (f x ≡ Some y)
bind_some None f y e = absurd cc
bind_some (Some x) f y e = (x, refl, e)

pub guard_none : {A : Type 0} (b : Bool) (o : Option A) (y : A) → cond b None o ≡ Some y → (b ≡ false) × (o ≡ Some y)
guard_none true o y e = absurd cc
guard_none false o y e = (refl, e)

pub guard_some : {A : Type 0} (b : Bool) (o : Option A) (y : A) → cond b o None ≡ Some y → (b ≡ true) × (o ≡ Some y)
guard_some true o y e = (refl, e)
guard_some false o y e = absurd cc

-- ---- digits

pub digits_again : (text : List ℕ) → list_all is_digit text ≡ true → text ≡ map (λ d. d + 48) (map (λ b. b - 48) text)
digits_again [] e = refl
digits_again (b ∷ bs) e =
    let p = and_parts (is_digit b) (list_all is_digit bs) e in
    let q = is_digit_bounds b p.0 in
    let same : b ≡ (b - 48) + 48 = omega arith in
    cc (digits_again bs p.1)

pub number_found : (text digits : List ℕ) → digits_in text ≡ Some digits → IsNumber text digits
number_found text digits e =
    let p = cond_some ((nat_le 1 (length text) && nat_le (length text) 16) && list_all is_digit text) (map (λ b. b - 48) text) digits e in
    let q = and_parts (nat_le 1 (length text) && nat_le (length text) 16) (list_all is_digit text) p.0 in
    let r = and_parts (nat_le 1 (length text)) (nat_le (length text) 16) q.0 in
    let some : 0 < length text = omega (arith, leb-true 1 (length text) r.0) in
    let most : length text ≤ 16 = leb-true (length text) 16 r.1 in
    (digits_again text q.1 ∙ ap text_of p.1, subst AreSomeDigits p.1 (are_some_digits text some most q.1))

-- ---- octets

first_is : (octets : List ℕ) (c : ℕ) → length octets ≡ 1 → slice_index octets 0 ≡ c → octets ≡ c ∷ []
first_is [] c len e = absurd (omega arith)
first_is (b ∷ []) c len e = ap (λ x. x ∷ []) e
first_is (b ∷ d ∷ bs) c len e = absurd (omega arith)

octets_found : (text : List ℕ) (n : ℕ) (octets : List ℕ) → decode_sized text n ≡ Ok octets → (decode_of text ≡ Ok octets) × (length octets ≡ n)
octets_found text n octets e =
    let len = decode_sized-ok text n octets e in
    let whole : decode_of text ≡ Ok octets = sym (decode_sized-twice text n len) ∙ e in
    let facts = decode_of-ok text octets whole in
    (whole, omega (arith, facts.2))

pub octet_found : (text : List ℕ) (c : ℕ) → octet_in text ≡ Some c → IsCode text c
octet_found text c e =
    elim (decode_sized text 1) as (λ r. decode_sized text 1 ≡ r → option_map (λ octets. slice_index octets 0) (result_ok r) ≡ Some c → IsCode text c) [
      | Ok octets ↦ λ is first. let p = octets_found text 1 octets is in
          let f : slice_index octets 0 ≡ c = cc in
          p.0 ∙ ap (λ (os : List ℕ). Ok os) (first_is octets c p.1 f)
      | Err err ↦ λ is none. absurd cc
    ] refl e

-- ---- codes

list_any-flip : (c : ℕ) (xs : List ℕ) → list_any (λ x. x == c) xs ≡ false → list_any (λ x. c == x) xs ≡ false
list_any-flip c [] e = refl
list_any-flip c (x ∷ xs) e =
    let p = or_parts (x == c) (list_any (λ y. y == c) xs) e in
    let q : (c == x) ≡ false = ne_eqb c x (λ s. eqb-false x c p.0 (sym s)) in
    or_from (c == x) (list_any (λ y. c == y) xs) q (list_any-flip c xs p.1)

record CodesFound (found : List ℕ) (ps : List (List ℕ)) (cs : List ℕ) : Type 0 where
  new : List ℕ
  whole : cs ≡ found ++ new
  each : Each IsCode ps new
  most : length found ≤ 32 → length cs ≤ 32
  apart : IsDistinct nat_eq found → IsDistinct nat_eq cs

codes_after_found : (found : List ℕ) (ps : List (List ℕ)) (cs : List ℕ) → codes_after found ps ≡ Some cs → CodesFound found ps cs
unfolding codes_after
codes_after_found found [] cs e =
    let same : found ≡ cs = cc in
    record {
      new = [];
      whole = sym same ∙ sym (append-nil found);
      each = tt;
      most = λ h. subst (λ (l : List ℕ). length l ≤ 32) same h;
      apart = λ h. subst
          (IsDistinct nat_eq) same h;
    }
codes_after_found found (part ∷ more) cs e =
    let b = bind_some (octet_in part) _ cs e in
    let g = guard_none (list_any (λ c. c == b.0) found) _ cs b.2 in
    let h = guard_some (nat_lt (length found) 32) _ cs g.1 in
    let r = codes_after_found (found ++ b.0 ∷ []) more cs h.1 in
    record {
      new = b.0 ∷ r.new;
      whole = r.whole ∙ append_assoc found (b.0 ∷ []) r.new;
      each = (octet_found part b.0 b.1, r.each);
      most = λ _. r.most (omega (arith, length_push found b.0, ltb-true (length found) 32 h.0));
      apart = λ d. r.apart (IsDistinct-push nat_eq_equiv found b.0 d (list_any-flip b.0 found g.0));
    }

Each-some : {X : Type 0} (S : List ℕ → X → Type 0) (t : List ℕ) (ts : List (List ℕ)) (xs : List X) → Each S (t ∷ ts) xs → 0 < length xs
Each-some S t ts [] h = absurd h
Each-some S t ts (x ∷ xs) h = omega arith

pub is_text_true : (a b : List ℕ) → is_text a b ≡ true → a ≡ b
is_text_true [] [] e = refl
is_text_true [] (y ∷ ys) e = absurd (false≢true e)
is_text_true (x ∷ xs) [] e = absurd (false≢true e)
is_text_true (x ∷ xs) (y ∷ ys) e = let p = and_parts (x == y) (is_text xs ys) e in let q = eqb-true x y p.0 in cc (is_text_true xs ys p.1)

pub chosen : {A : Type 0} (b : Bool) (x : A) (o : Option A) (y : A) → cond b (Some x) o ≡ Some y → ((b ≡ true) × (x ≡ y)) ⊎ ((b ≡ false) × (o ≡ Some y))
chosen true x o y e = inl (refl, cc)
chosen false x o y e = inr (refl, e)

pub joined_again : (at : ℕ) (field : List ℕ) → field ≡ join_with_byte at (parts at field)
joined_again at field = sym (join_with_byte-slice_split at field)

parts-some : {X : Type 0} (S : List ℕ → X → Type 0) (at : ℕ) (field : List ℕ) (xs : List X) → Each S (parts at field) xs → 0 < length xs
parts-some S at field xs h = let p = parts_cons at field in Each-some S p.0 p.1 xs (subst (λ (ps : List (List ℕ)). Each S ps xs) p.2 h)

pub none_twice : IsDistinct nat_eq []
unfolding IsDistinct
none_twice = tt

pub codes_found : (field cs : List ℕ) → codes_in field ≡ Some cs → IsCodes field cs
unfolding codes_in
codes_found field cs e =
    elim (chosen (is_text field (codes "-")) [] (codes_after [] (parts 44 field)) cs e) [
      | inl p ↦ inl (is_text_true field (codes "-") p.0, sym p.1)
      | inr p ↦
          let r = codes_after_found [] (parts 44 field) cs p.1 in
          let each : Each IsCode (parts 44 field) cs = subst (λ (xs : List ℕ). Each IsCode (parts 44 field) xs) (sym r.whole) r.each in
          inr (
            record {
              texts = parts 44 field;
              joined = joined_again 44 field;
              each = each;
              some = parts-some IsCode 44 field cs each;
              most = r.most
                  (omega arith);
            },
            r.apart none_twice,
          )
    ]

-- ---- prefixes

record PrefixesFound (found : List (List ℕ)) (ps : List (List ℕ)) (ds : List (List ℕ)) : Type 0 where
  new : List (List ℕ)
  whole : ds ≡ found ++ new
  each : Each IsNumber ps new
  most : length found ≤ 8 → length ds ≤ 8

prefixes_after_found : (found : List (List ℕ)) (ps : List (List ℕ)) (ds : List (List ℕ)) → prefixes_after found ps ≡ Some ds → PrefixesFound found ps ds
unfolding prefixes_after
prefixes_after_found found [] ds e =
    let same : found ≡ ds = cc in
    record { new = []; whole = sym same ∙ sym (append-nil found); each = tt; most = λ h. subst (λ (l : List (List ℕ)). length l ≤ 8) same h }
prefixes_after_found found (part ∷ more) ds e =
    let b = bind_some (digits_in part) _ ds e in
    let h = guard_some (nat_lt (length found) 8) _ ds b.2 in
    let r = prefixes_after_found (found ++ b.0 ∷ []) more ds h.1 in
    record {
      new = b.0 ∷ r.new;
      whole = r.whole ∙ append_assoc found (b.0 ∷ []) r.new;
      each = (number_found part b.0 b.1, r.each);
      most = λ _. r.most (omega (arith, length_push found b.0, ltb-true (length found) 8 h.0));
    }

map_some : {A B : Type 0} (f : A → B) (o : Option A) (y : B) → option_map f o ≡ Some y → (x : A) × (o ≡ Some x) × (f x ≡ y)
map_some f None y e = absurd cc
map_some f (Some x) y e = (x, refl, cc)

pub roam_found : (field : List ℕ) (roam : Option (List (List ℕ))) → roam_in field ≡ Some roam → IsRoam field roam
unfolding roam_in
roam_found field roam e =
    elim (chosen (is_text field (codes "*")) None (option_map (λ ps. Some ps) (prefixes_after [] (parts 44 field))) roam e) [
      | inl p ↦ subst (IsRoam field) p.1 (is_text_true field (codes "*") p.0)
      | inr p ↦
          let m = map_some (λ (ps : List (List ℕ)). Some ps) (prefixes_after [] (parts 44 field)) roam p.1 in
          let r = prefixes_after_found [] (parts 44 field) m.0 m.1 in
          let each : Each IsNumber (parts 44 field) m.0 = subst (λ (xs : List (List ℕ)). Each IsNumber (parts 44 field) xs) (sym r.whole) r.each in
          subst (IsRoam field) m.2 (record {
            texts = parts 44 field;
            joined = joined_again 44 field;
            each = each;
            some = parts-some IsNumber 44 field m.0 each;
            most = r.most (omega arith);
          })
    ]

-- ---- registers

pub purged_found : (text : List ℕ) (purged : Bool) → purged_in text ≡ Some purged → text ≡ purged_text purged
purged_found text purged e =
    elim (chosen (is_text text (codes "p")) true (cond (is_text text (codes "s")) (Some false) None) purged e) [
      | inl p ↦ subst (λ b. text ≡ purged_text b) p.1 (is_text_true text (codes "p") p.0)
      | inr p ↦ let q = cond_some (is_text text (codes "s")) false purged p.1 in subst (λ b. text ≡ purged_text b) q.1 (is_text_true text (codes "s") q.0)
    ]

pub withdrawn_found : (text : List ℕ) (withdrawn : Bool) → withdrawn_in text ≡ Some withdrawn → text ≡ withdrawn_text withdrawn
withdrawn_found text withdrawn e =
    elim (chosen (is_text text (codes "w")) true (cond (is_text text (codes "a")) (Some false) None) withdrawn e) [
      | inl p ↦ subst (λ b. text ≡ withdrawn_text b) p.1 (is_text_true text (codes "w") p.0)
      | inr p ↦ let q = cond_some (is_text text (codes "a")) false withdrawn p.1 in subst (λ b. text ≡ withdrawn_text b) q.1 (is_text_true text (codes "a") q.0)
    ]

ok_some : {A E : Type 0} (r : Result A E) (x : A) → result_ok r ≡ Some x → r ≡ Ok x
ok_some (Ok y) x e = let p : y ≡ x = cc in ap (λ z. Ok z) p
ok_some (Err y) x e = absurd cc

pub lmsi_found : (text : List ℕ) (lmsi : Option (List ℕ)) → lmsi_in text ≡ Some lmsi → IsLmsiField text lmsi
lmsi_found text lmsi e =
    elim (chosen (is_text text (codes "-")) None (option_map (λ (octets : List ℕ). Some octets) (result_ok (decode_sized text 4))) lmsi e) [
      | inl p ↦ subst (IsLmsiField text) p.1 (is_text_true text (codes "-") p.0)
      | inr p ↦
          let m = map_some (λ (octets : List ℕ). Some octets) (result_ok (decode_sized text 4)) lmsi p.1 in
          let q = octets_found text 4 m.0 (ok_some (decode_sized text 4) m.0 m.1) in
          subst (IsLmsiField text) m.2 (q.0, q.1)
    ]

record RegisterFound (ps : List (List ℕ)) (r : Register) (purged : Bool) : Type 0 where
  vlr : List ℕ
  msc : List ℕ
  lmsi : List ℕ
  fields : ps ≡ vlr ∷ msc ∷ lmsi ∷ purged_text purged ∷ []
  is_vlr : IsNumber vlr r.vlr
  is_msc : IsNumber msc r.msc
  is_lmsi : IsLmsiField lmsi r.lmsi

register_in_found : (ps : List (List ℕ)) (r : Register × Bool) → register_of ps ≡ Some r → RegisterFound ps r.0 r.1
unfolding register_of
register_in_found (vlr ∷ msc ∷ lmsi ∷ mark ∷ []) r e =
    let v = bind_some (digits_in vlr) _ r e in
    let m = bind_some (digits_in msc) _ r v.2 in
    let l = bind_some (lmsi_in lmsi) _ r m.2 in
    let p = bind_some (purged_in mark) _ r l.2 in
    let made : Register = record { vlr = v.0; msc = m.0; lmsi = l.0 } in
    let same : (made, p.0) ≡ r = cc in
    subst (λ (x : Register × Bool). RegisterFound (vlr ∷ msc ∷ lmsi ∷ mark ∷ []) x.0 x.1) same (record {
      vlr = vlr;
      msc = msc;
      lmsi = lmsi;
      fields = ap (λ (t : List ℕ). vlr ∷ msc ∷ lmsi ∷ t ∷ []) (purged_found mark p.0 p.1);
      is_vlr = number_found vlr v.0 v.1;
      is_msc = number_found msc m.0 m.1;
      is_lmsi = lmsi_found lmsi l.0 l.1;
    })
register_in_found [] r e = absurd cc
register_in_found (a ∷ []) r e = absurd cc
register_in_found (a ∷ b ∷ []) r e = absurd cc
register_in_found (a ∷ b ∷ c ∷ []) r e = absurd cc
register_in_found (a ∷ b ∷ c ∷ d ∷ f ∷ ps) r e = absurd cc

abbrev no_register : Option Register × Bool
no_register = (None, false)

pub register_found : (field : List ℕ) (r : Option Register × Bool) → register_in field ≡ Some r → IsRegister field r.0 r.1
unfolding register_in
register_found field r e =
    elim (chosen (is_text field (codes "-")) no_register (register_of (parts 44 field) >>= λ x. Some (Some x.0, x.1)) r e) [
      | inl p ↦ subst (λ (x : Option Register × Bool). IsRegister field x.0 x.1) p.1 (is_text_true field (codes "-") p.0, refl)
      | inr p ↦
          let b = bind_some (register_of (parts 44 field)) (λ x. Some (Some x.0, x.1)) r p.1 in
          let f = register_in_found (parts 44 field) b.0 b.1 in
          let same : (Some b.0.0, b.0.1) ≡ r = cc in
          subst (λ (x : Option Register × Bool). IsRegister field x.0 x.1) same
          (f.vlr, f.msc, f.lmsi, joined_again 44 field ∙ ap (join_with_byte 44) f.fields, f.is_vlr, f.is_msc, f.is_lmsi)
    ]
