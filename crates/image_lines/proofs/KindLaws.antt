-- What the parts of a kind read to is what they are written for, and is read from them.
use Rattle.std.proofs.Common.{◌≡◌, ℕ, ◌<◌, ◌^◌, Bool, true, false, cond, List, [], ◌∷◌, refl, sym, ap, subst, ◌∙◌, arith, inl, inr}
use Rattle.std.specs.Prelude.{◌⊎◌, ◌≤◌, Option, Some, None, codes}
use Rattle.std.proofs.lemmas.Option.{cond_some}
use Rattle.std.specs.Fmt.{decimal, signed_decimal}
use Rattle.hlr_types.specs.Digits.{AreSomeDigits}
use Rattle.hlr_types.specs.DigitTexts.{digits_in, text_of}
use Rattle.machine.specs.Received.{Register}
use Rattle.machine.specs.State.{Kind, Updates, Cancels, Data}
use Rattle.records.specs.Reading.{is_text}
use Rattle.records.proofs.FieldLaws.{bind_some, guard_some, is_text_true, number_found}
use Rattle.records.proofs.AgainFields.{number_again}
use Rattle.image_lines.specs.Lines.{IsKind, kind_fields, kind_text, kind_values, octets_text, why_text}
use Rattle.image_lines.specs.Reading.{cancel_in, data_in, first_of, kind_by, kind_from, kind_in, lmsi_in, only_of, signed_in, up_to, update_in, why_in}
use Rattle.image_lines.proofs.NumberLemmas.{up_to_again, up_to_found}
use Rattle.image_lines.proofs.SignedLemmas.{signed_again, signed_found}
use Rattle.image_lines.proofs.OctetLemmas.{lmsi_again, lmsi_found}
use Rattle.image_lines.proofs.WordLemmas.{first_found, only_found, why_again, why_found}

-- a kind, by its word and what follows it
record KindFound (word : List ℕ) (ps : List (List ℕ)) (kind : Kind) : Type 0 where
  is_word : word ≡ kind_text kind
  values : ps ≡ kind_values kind
  is_kind : IsKind kind

pub four_parts : (ps r1 r2 r3 : List (List ℕ)) (a b c d a1 b1 c1 d1 : List ℕ) → ps ≡ a ∷ r1 → r1 ≡ b ∷ r2 → r2 ≡ c ∷ r3 → r3 ≡ d ∷ []
    → a ≡ a1 → b ≡ b1 → c ≡ c1 → d ≡ d1 → ps ≡ a1 ∷ b1 ∷ c1 ∷ d1 ∷ []
four_parts ps r1 r2 r3 a b c d a1 b1 c1 d1 e1 e2 e3 e4 ea eb ec ed = rw (e1, e2, e3, e4, ea, eb, ec, ed) refl

pub three_parts : (ps r1 r2 : List (List ℕ)) (a b c a1 b1 c1 : List ℕ) → ps ≡ a ∷ r1 → r1 ≡ b ∷ r2 → r2 ≡ c ∷ []
    → a ≡ a1 → b ≡ b1 → c ≡ c1 → ps ≡ a1 ∷ b1 ∷ c1 ∷ []
three_parts ps r1 r2 a b c a1 b1 c1 e1 e2 e3 ea eb ec = rw (e1, e2, e3, ea, eb, ec) refl

update_found : (ps : List (List ℕ)) (kind : Kind) → update_in ps ≡ Some kind → KindFound (codes "update") ps kind
unfolding update_in
update_found ps kind e =
    let a = bind_some (first_of ps) _ kind e in
    let b = bind_some (first_of a.0.1) _ kind a.2 in
    let c = bind_some (first_of b.0.1) _ kind b.2 in
    let d = bind_some (only_of c.0.1) _ kind c.2 in
    let v = bind_some (digits_in a.0.0) _ kind d.2 in
    let m = bind_some (digits_in b.0.0) _ kind v.2 in
    let l = bind_some (lmsi_in c.0.0) _ kind m.2 in
    let i = bind_some (signed_in d.0) _ kind l.2 in
    let register : Register = record { vlr = v.0; msc = m.0; lmsi = l.0 } in
    let same : Updates register i.0 ≡ kind = some_kind (Updates register i.0) kind i.2 in
    let vlr = number_found a.0.0 v.0 v.1 in
    let msc = number_found b.0.0 m.0 m.1 in
    let lmsi = lmsi_found c.0.0 l.0 l.1 in
    let invoke = signed_found d.0 i.0 i.1 in
    subst (KindFound (codes "update") ps) same (record {
      is_word = refl;
      values = four_parts ps a.0.1 b.0.1 c.0.1 a.0.0 b.0.0 c.0.0 d.0 (text_of v.0) (text_of m.0) (octets_text l.0) (signed_decimal i.0)
          (first_found ps a.0 a.1) (first_found a.0.1 b.0 b.1) (first_found b.0.1 c.0 c.1) (only_found c.0.1 d.0 d.1) vlr.0 msc.0 lmsi.0 invoke.0;
      is_kind = (record { vlr = vlr.1; msc = msc.1; lmsi = lmsi.1 }, invoke.1);
    })
  where
    some_kind : (k l : Kind) → Some k ≡ Some l → k ≡ l
    some_kind k l e = cc

cancel_found : (ps : List (List ℕ)) (kind : Kind) → cancel_in ps ≡ Some kind → KindFound (codes "cancel") ps kind
unfolding cancel_in
cancel_found ps kind e =
    let a = bind_some (first_of ps) _ kind e in
    let b = bind_some (first_of a.0.1) _ kind a.2 in
    let c = bind_some (only_of b.0.1) _ kind b.2 in
    let v = bind_some (digits_in a.0.0) _ kind c.2 in
    let n = bind_some (up_to 255 b.0.0) _ kind v.2 in
    let w = bind_some (why_in c.0) _ kind n.2 in
    let same : Cancels v.0 n.0 w.0 ≡ kind = some_kind (Cancels v.0 n.0 w.0) kind w.2 in
    let vlr = number_found a.0.0 v.0 v.1 in
    let attempt = up_to_found 255 b.0.0 n.0 n.1 in
    let most = attempt.1 in
    subst (KindFound (codes "cancel") ps) same (record {
      is_word = refl;
      values = three_parts ps a.0.1 b.0.1 a.0.0 b.0.0 c.0 (text_of v.0) (decimal n.0) (why_text w.0)
          (first_found ps a.0 a.1) (first_found a.0.1 b.0 b.1) (only_found b.0.1 c.0 c.1) vlr.0 attempt.0 (why_found c.0 w.0 w.1);
      is_kind = (vlr.1, omega (arith, most));
    })
  where
    some_kind : (k l : Kind) → Some k ≡ Some l → k ≡ l
    some_kind k l e = cc

-- the rest of a choice whose first test fails
chosen_or : (b : Bool) (o p : Option Kind) (kind : Kind) → cond b o p ≡ Some kind → ((b ≡ true) × (o ≡ Some kind)) ⊎ ((b ≡ false) × (p ≡ Some kind))
chosen_or true o p kind e = inl (refl, e)
chosen_or false o p kind e = inr (refl, e)

by_found : (word : List ℕ) (ps : List (List ℕ)) (kind : Kind) → kind_by word ps ≡ Some kind → KindFound word ps kind
unfolding kind_by
by_found word ps kind e =
    elim (chosen_or (is_text word (codes "update")) (update_in ps) (cond (is_text word (codes "cancel")) (cancel_in ps) None) kind e) [
      | inl p ↦ subst (λ (w : List ℕ). KindFound w ps kind) (sym (is_text_true word (codes "update") p.0)) (update_found ps kind p.1)
      | inr p ↦
          let q = guard_some (is_text word (codes "cancel")) (cancel_in ps) kind p.1 in
          subst (λ (w : List ℕ). KindFound w ps kind) (sym (is_text_true word (codes "cancel") q.0)) (cancel_found ps kind q.1)
    ]

data_found : (ps : List (List ℕ)) (kind : Kind) → data_in ps ≡ Some kind → (ps ≡ kind_fields kind) × IsKind kind
unfolding data_in
data_found ps kind e =
    let a = bind_some (only_of ps) _ kind e in
    let p = cond_some (is_text a.0 (codes "data")) Data kind a.2 in
    let whole : ps ≡ codes "data" ∷ [] = only_found ps a.0 a.1 ∙ ap (λ (w : List ℕ). w ∷ []) (is_text_true a.0 (codes "data") p.0) in
    subst (λ (k : Kind). (ps ≡ kind_fields k) × IsKind k) p.1 (whole, tt)

from_found : (ps : List (List ℕ)) (first : Option (List ℕ × List (List ℕ))) (kind : Kind) → first_of ps ≡ first → kind_from ps first ≡ Some kind
    → (ps ≡ kind_fields kind) × IsKind kind
from_found ps None kind is e = data_found ps kind e
from_found ps (Some f) kind is e =
    let k = by_found f.0 f.1 kind e in
    (first_found ps f is ∙ ap (λ (w : List ℕ). w ∷ f.1) k.is_word ∙ ap (λ (vs : List (List ℕ)). kind_text kind ∷ vs) k.values, k.is_kind)

pub kind_found : (ps : List (List ℕ)) (kind : Kind) → kind_in ps ≡ Some kind → (ps ≡ kind_fields kind) × IsKind kind
unfolding kind_in
kind_found ps kind e = from_found ps (first_of ps) kind refl e

-- ---- what is written is read

pub digits_read : (digits : List ℕ) → AreSomeDigits digits → digits_in (text_of digits) ≡ Some digits
digits_read digits some = number_again (text_of digits) digits (refl, some)

pub few_read : (most n : ℕ) → n ≤ most → most < 2 ^ 64 → up_to most (decimal n) ≡ Some n
few_read most n le lt = up_to_again most n le (omega (arith, le, lt))

pub kind_again : (kind : Kind) → IsKind kind → kind_in (kind_fields kind) ≡ Some kind
unfolding kind_in kind_by update_in cancel_in data_in
kind_again (Updates register invoke) is =
    rw (digits_read register.vlr is.0.vlr, digits_read register.msc is.0.msc, lmsi_again register.lmsi is.0.lmsi, signed_again (signed_decimal invoke) invoke is.1 refl) refl
kind_again (Cancels vlr attempt why) is =
    let lt = is.1 in
    rw (digits_read vlr is.0, few_read 255 attempt (omega (arith, lt)) (omega arith), why_again why) refl
kind_again Data is = refl
