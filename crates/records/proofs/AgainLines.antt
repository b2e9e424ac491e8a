-- What a line stands for is read from it.
use Rattle.std.proofs.Common.{◌≡◌, ℕ, ◌<◌, Bool, true, false, List, [], ◌∷◌, ◌++◌, length, refl, sym, ap, subst, ◌∙◌, arith, inl, inr}
use Rattle.std.specs.Prelude.{◌&&◌, ◌==◌, nat_lt, Option, Some, None, Ok, codes, is_some}
use Rattle.std.specs.List.{AllByRecursion, join_with_byte}
use Rattle.std.specs.Result.{result_ok}
use Rattle.std.proofs.lemmas.Bool.{cases_Bool, false≢true, eqb-true, cond-false, ne_eqb, le-ltb}
use Rattle.std.proofs.lemmas.List.{length-append}
use Rattle.std.proofs.lemmas.List.Elements.{recursion_from_All}
use Rattle.hex.specs.Hex.{decode_of, decode_sized, is_hex_digit}
use Rattle.hex.proofs.HexLemmas.{decode_of-ok}
use Rattle.hlr_types.specs.DigitTexts.{digits_in}
use Rattle.hlr_types.specs.declared.register.Register.{Register}
use Rattle.records.specs.declared.version.Version.{Version}
use Rattle.records.specs.declared.version.Version.TheVariants.{One, Two}
use Rattle.records.specs.Subscriber.{Subscriber}
use Rattle.texts.specs.Lines.{parts}
use Rattle.records.specs.Reading.{◌>>=◌, is_text, codes_after, codes_in, prefixes_after, roam_in, lmsi_in, purged_in, withdrawn_in, register_of, register_in, subscriber_of, subscriber_from, record_of, header_in}
use Rattle.records.specs.Spelling.{IsNumber, IsCode, Each, IsCodes, IsRoam, IsLmsiField, IsRegister, purged_text, withdrawn_text, sixth, IsRecordLine, IsHeader, mark_of}
use Rattle.records.proofs.FieldLaws.{is_text_true}
use Rattle.records.proofs.AgainFields.{number_again, imsi_counted, octets_again, codes_after_again, prefixes_after_again, Lacks, Lacks-join, Lacks-digits, parts-join}

-- ---- what lacks a separator

not_hex : (at : ℕ) → is_hex_digit at ≡ false → (x : ℕ) → is_hex_digit x ≡ true → (x == at) ≡ false
not_hex at isnt x is_hex =
    elim (cases_Bool (x == at)) [
      | inl t ↦ let e : is_hex_digit x ≡ is_hex_digit at = ap is_hex_digit (eqb-true x at t) in absurd (false≢true (sym isnt ∙ sym e ∙ is_hex))
      | inr f ↦ f
    ]

hex_lacks : (at : ℕ) → is_hex_digit at ≡ false → (text : List ℕ) → AllByRecursion (λ x. is_hex_digit x ≡ true) text → Lacks at text
hex_lacks at isnt [] h = tt
hex_lacks at isnt (x ∷ xs) h = (not_hex at isnt x h.0, hex_lacks at isnt xs h.1)

octets_lack : (at : ℕ) → is_hex_digit at ≡ false → (text octets : List ℕ) → decode_of text ≡ Ok octets → Lacks at text
octets_lack at isnt text octets e = hex_lacks at isnt text (recursion_from_All (λ x. is_hex_digit x ≡ true) text (decode_of-ok text octets e).1)

each_lacks : {X : Type 0} (at : ℕ) (S : List ℕ → X → Type 0) → ((t : List ℕ) (x : X) → S t x → Lacks at t) → (ts : List (List ℕ)) (xs : List X) → Each S ts xs
    → AllByRecursion (Lacks at) ts
each_lacks at S lacks [] xs h = tt
each_lacks at S lacks (t ∷ ts) [] h = absurd h
each_lacks at S lacks (t ∷ ts) (x ∷ xs) h = (lacks t x h.0, each_lacks at S lacks ts xs h.1)

number_lacks : (at : ℕ) → at < 48 → (t ds : List ℕ) → IsNumber t ds → Lacks at t
number_lacks at lt t ds h = subst (Lacks at) (sym h.0) (Lacks-digits at ds lt)

parts_again : {X : Type 0} (S : List ℕ → X → Type 0) (ts : List (List ℕ)) (xs : List X) → Each S ts xs → 0 < length xs → AllByRecursion (Lacks 44) ts
    → parts 44 (join_with_byte 44 ts) ≡ ts
parts_again S [] [] h some lacks = absurd (omega arith)
parts_again S [] (x ∷ xs) h some lacks = absurd h
parts_again S (t ∷ ts) xs h some lacks = parts-join 44 t ts lacks

code_lacks : (at : ℕ) → is_hex_digit at ≡ false → (t : List ℕ) (c : ℕ) → IsCode t c → Lacks at t
code_lacks at isnt t c h = octets_lack at isnt t (c ∷ []) h

-- ---- fields

no_codes : codes_after [] (parts 44 (codes "-")) ≡ None
unfolding codes_after
no_codes = refl

pub codes_again : (field cs : List ℕ) → IsCodes field cs → codes_in field ≡ Some cs
unfolding codes_in
codes_again field cs (inl h) = rw (h.0, h.1) refl
codes_again field cs (inr h) =
    let l = h.0 in
    let ps : parts 44 field ≡ l.texts = ap (parts 44) l.joined ∙ parts_again IsCode l.texts cs l.each l.some
    (each_lacks 44 IsCode (code_lacks 44 refl) l.texts cs l.each) in
    let found : codes_after [] (parts 44 field) ≡ Some cs = ap (codes_after []) ps ∙ codes_after_again [] l.texts cs l.each h.1 l.most in
    elim (cases_Bool (is_text field (codes "-"))) [
      | inl t ↦ let bad : codes_after [] (parts 44 field) ≡ None =
          ap (λ (x : List ℕ). codes_after [] (parts 44 x)) (is_text_true field (codes "-") t) ∙ no_codes in
          absurd (cc (sym found ∙ bad))
      | inr f ↦ cond-false (is_text field (codes "-")) (Some []) (codes_after [] (parts 44 field)) f ∙ found
    ]

no_prefixes : prefixes_after [] (parts 44 (codes "*")) ≡ None
unfolding prefixes_after
no_prefixes = refl

pub roam_again : (field : List ℕ) (roam : Option (List (List ℕ))) → IsRoam field roam → roam_in field ≡ Some roam
unfolding roam_in
roam_again field None h = rw h refl
roam_again field (Some prefixes) l =
    let ps : parts 44 field ≡ l.texts = ap (parts 44) l.joined ∙ parts_again IsNumber l.texts prefixes l.each l.some
    (each_lacks 44 IsNumber (number_lacks 44 (omega arith)) l.texts prefixes l.each) in
    let found : prefixes_after [] (parts 44 field) ≡ Some prefixes = ap (prefixes_after []) ps ∙ prefixes_after_again [] l.texts prefixes l.each l.most in
    elim (cases_Bool (is_text field (codes "*"))) [
      | inl t ↦ let bad : prefixes_after [] (parts 44 field) ≡ None =
          ap (λ (x : List ℕ). prefixes_after [] (parts 44 x)) (is_text_true field (codes "*") t) ∙ no_prefixes in
          absurd (cc (sym found ∙ bad))
      | inr f ↦ rw (f, found) refl
    ]

no_octets : result_ok (decode_sized (codes "-") 4) ≡ None
no_octets = refl

lmsi_again : (text : List ℕ) (lmsi : Option (List ℕ)) → IsLmsiField text lmsi → lmsi_in text ≡ Some lmsi
lmsi_again text None h = rw h refl
lmsi_again text (Some lmsi) h =
    let found : result_ok (decode_sized text 4) ≡ Some lmsi = ap result_ok (octets_again text 4 lmsi h.0 h.1) in
    elim (cases_Bool (is_text text (codes "-"))) [
      | inl t ↦ let bad : result_ok (decode_sized text 4) ≡ None =
          ap (λ (x : List ℕ). result_ok (decode_sized x 4)) (is_text_true text (codes "-") t) ∙ no_octets in
          absurd (cc (sym found ∙ bad))
      | inr f ↦ rw (f, found) refl
    ]

purged_again : (purged : Bool) → purged_in (purged_text purged) ≡ Some purged
purged_again true = refl
purged_again false = refl

withdrawn_again : (withdrawn : Bool) → withdrawn_in (withdrawn_text withdrawn) ≡ Some withdrawn
withdrawn_again true = refl
withdrawn_again false = refl

purged_lacks : (at : ℕ) → at < 48 → (purged : Bool) → Lacks at (purged_text purged)
purged_lacks at lt true = (ne_eqb 112 at (λ e. omega arith), tt)
purged_lacks at lt false = (ne_eqb 115 at (λ e. omega arith), tt)

lmsi_lacks : (at : ℕ) → is_hex_digit at ≡ false → (45 == at) ≡ false → (text : List ℕ) (lmsi : Option (List ℕ)) → IsLmsiField text lmsi → Lacks at text
lmsi_lacks at isnt dash text None h = subst (Lacks at) (sym h) (dash, tt)
lmsi_lacks at isnt dash text (Some lmsi) h = octets_lack at isnt text lmsi h.0

no_register_in : register_of (parts 44 (codes "-")) ≡ None
unfolding register_of
no_register_in = refl

register_in_again : (vlr msc lmsi : List ℕ) (r : Register) (purged : Bool) → IsNumber vlr r.vlr → IsNumber msc r.msc → IsLmsiField lmsi r.lmsi
    → register_of (vlr ∷ msc ∷ lmsi ∷ purged_text purged ∷ []) ≡ Some (r, purged)
unfolding register_of
register_in_again vlr msc lmsi r purged v m l = rw (number_again vlr r.vlr v, number_again msc r.msc m, lmsi_again lmsi r.lmsi l, purged_again purged) refl

pub register_again : (field : List ℕ) (register : Option Register) (purged : Bool) → IsRegister field register purged
    → register_in field ≡ Some (register, purged)
unfolding register_in
register_again field None purged h = rw (h.0, h.1) refl
register_again field (Some r) purged h =
    let vlr = h.0 in let msc = h.1 in let lmsi = h.2 in
    let lacks : AllByRecursion (Lacks 44) (vlr ∷ msc ∷ lmsi ∷ purged_text purged ∷ []) = (
      number_lacks 44 (omega arith) vlr r.vlr h.4,
      (
        number_lacks 44 (omega arith) msc r.msc h.5,
        (lmsi_lacks 44 refl refl lmsi r.lmsi h.6, (purged_lacks 44 (omega arith) purged, tt)),
      ),
    ) in
    let ps : parts 44 field ≡ vlr ∷ msc ∷ lmsi ∷ purged_text purged ∷ [] = ap (parts 44) h.3 ∙ parts-join 44 vlr (msc ∷ lmsi ∷ purged_text purged ∷ []) lacks in
    let found : register_of (parts 44 field) ≡ Some (r, purged) = ap register_of ps ∙ register_in_again vlr msc lmsi r purged h.4 h.5 h.6 in
    elim (cases_Bool (is_text field (codes "-"))) [
      | inl t ↦ let bad : register_of (parts 44 field) ≡ None =
          ap (λ (x : List ℕ). register_of (parts 44 x)) (is_text_true field (codes "-") t) ∙ no_register_in in
          absurd (cc (sym found ∙ bad))
      | inr f ↦ rw (f, found) refl
    ]

-- ---- lines

-- a separator of fields or lines
pub record IsSeparator (at : ℕ) : Type 0 where
  pub no_hex : is_hex_digit at ≡ false
  pub low : at < 48
  pub dash : (45 == at) ≡ false
  pub star : (42 == at) ≡ false
  pub comma : (44 == at) ≡ false

pub space : IsSeparator 32
space = record { no_hex = refl; low = omega arith; dash = refl; star = refl; comma = refl }

pub line_feed : IsSeparator 10
line_feed = record { no_hex = refl; low = omega arith; dash = refl; star = refl; comma = refl }

codes_lack : (at : ℕ) → IsSeparator at → (field cs : List ℕ) → IsCodes field cs → Lacks at field
codes_lack at sep field cs (inl h) = subst (Lacks at) (sym h.0) (sep.dash, tt)
codes_lack at sep field cs (inr h) = subst (Lacks at) (sym h.0.joined)
    (Lacks-join at 44 h.0.texts sep.comma (each_lacks at IsCode (code_lacks at sep.no_hex) h.0.texts cs h.0.each))

roam_lacks : (at : ℕ) → IsSeparator at → (field : List ℕ) (roam : Option (List (List ℕ))) → IsRoam field roam → Lacks at field
roam_lacks at sep field None h = subst (Lacks at) (sym h) (sep.star, tt)
roam_lacks at sep field (Some ps) l = subst (Lacks at) (sym l.joined)
    (Lacks-join at 44 l.texts sep.comma (each_lacks at IsNumber (number_lacks at sep.low) l.texts ps l.each))

register_lacks : (at : ℕ) → IsSeparator at → (field : List ℕ) (register : Option Register) (purged : Bool) → IsRegister field register purged → Lacks at field
register_lacks at sep field None purged h = subst (Lacks at) (sym h.0) (sep.dash, tt)
register_lacks at sep field (Some r) purged h =
    let lacks : AllByRecursion (Lacks at) (h.0 ∷ h.1 ∷ h.2 ∷ purged_text purged ∷ []) = (
      number_lacks at sep.low h.0 r.vlr h.4,
      (
        number_lacks at sep.low h.1 r.msc h.5,
        (lmsi_lacks at sep.no_hex sep.dash h.2 r.lmsi h.6, (purged_lacks at sep.low purged, tt)),
      ),
    ) in
    subst (Lacks at) (sym h.3) (Lacks-join at 44 (h.0 ∷ h.1 ∷ h.2 ∷ purged_text purged ∷ []) sep.comma lacks)

withdrawn_lacks : (at : ℕ) → IsSeparator at → (withdrawn : Bool) → Lacks at (withdrawn_text withdrawn)
withdrawn_lacks at sep true = let low = sep.low in (ne_eqb 119 at (λ e. omega arith), tt)
withdrawn_lacks at sep false = let low = sep.low in (ne_eqb 97 at (λ e. omega arith), tt)

sixth_lacks : (at : ℕ) → IsSeparator at → (version : Version) (withdrawn : Bool) → AllByRecursion (Lacks at) (sixth version withdrawn)
sixth_lacks at sep One withdrawn = tt
sixth_lacks at sep Two withdrawn = (withdrawn_lacks at sep withdrawn, tt)

pub fields_lack : (at : ℕ) → IsSeparator at → (version : Version) (line : List ℕ) (s : Subscriber) (h : IsRecordLine version line s)
    → AllByRecursion (Lacks at) (h.imsi ∷ h.msisdn ∷ h.codes ∷ h.roam ∷ h.register ∷ sixth version s.withdrawn)
fields_lack at sep version line s h = (
  number_lacks at sep.low h.imsi s.imsi h.is_imsi.0,
  (
    number_lacks at sep.low h.msisdn s.msisdn h.is_msisdn,
    (
      codes_lack at sep h.codes s.codes h.is_codes,
      (
        roam_lacks at sep h.roam s.roam h.is_roam,
        (register_lacks at sep h.register s.register s.purged h.is_register, sixth_lacks at sep version s.withdrawn),
      ),
    ),
  ),
)

and_none : {A : Type 0} (w : Bool) (o : Option A) → (w ≡ true → o ≡ None) → (w && is_some o) ≡ false
and_none true o h = ap is_some (h refl)
and_none false o h = refl

abbrev with_current : Subscriber → Option (List ℕ) → Subscriber
with_current s c = record s { current = c }

subscriber_again : (version : Version) (line : List ℕ) (s : Subscriber) (h : IsRecordLine version line s) → (s.withdrawn ≡ true → s.register ≡ None)
    → subscriber_of h.imsi h.msisdn h.codes h.roam h.register s.withdrawn ≡ Some s
unfolding subscriber_of subscriber_from
subscriber_again version line s h free =
    let made : Subscriber = record {
      imsi = s.imsi;
      msisdn = s.msisdn;
      codes = s.codes;
      roam = s.roam;
      register = s.register;
      purged = s.purged;
      current = None;
      withdrawn = s.withdrawn;
    } in
    let same : made ≡ s = ap (λ (c : Option (List ℕ)). with_current s c) (sym h.no_current) in
    rw (
      number_again h.imsi s.imsi h.is_imsi.0,
      number_again h.msisdn s.msisdn h.is_msisdn,
      imsi_counted s.imsi h.is_imsi.1,
      codes_again h.codes s.codes h.is_codes,
      roam_again h.roam s.roam h.is_roam,
      register_again h.register s.register s.purged h.is_register,
      and_none s.withdrawn s.register free,
    )
    (ap (λ (x : Subscriber). Some x) same)

record_in_again : (version : Version) (line : List ℕ) (s : Subscriber) (h : IsRecordLine version line s)
    → record_of version (h.imsi ∷ h.msisdn ∷ h.codes ∷ h.roam ∷ h.register ∷ sixth version s.withdrawn) ≡ Some s
unfolding record_of
record_in_again One line s h =
    ap (λ (w : Bool). subscriber_of h.imsi h.msisdn h.codes h.roam h.register w) (sym h.may_be_withdrawn)
    ∙ subscriber_again One line s h (λ e. absurd (false≢true (sym h.may_be_withdrawn ∙ e)))
record_in_again Two line s h = rw (withdrawn_again s.withdrawn) (subscriber_again Two line s h h.may_be_withdrawn)

-- what a line stands for is read from it
pub record_again : (version : Version) (line : List ℕ) (s : Subscriber) → IsRecordLine version line s → record_of version (parts 32 line) ≡ Some s
record_again version line s h =
    let lacks = fields_lack 32 space version line s h in
    ap (λ (l : List ℕ). record_of version (parts 32 l)) h.fields
    ∙ ap (record_of version) (parts-join 32 h.imsi (h.msisdn ∷ h.codes ∷ h.roam ∷ h.register ∷ sixth version s.withdrawn) lacks)
    ∙ record_in_again version line s h

-- ---- the first line

number_of_length : (version : Version) (number : List ℕ) → header_in (mark_of version ++ number) ≡ (digits_in number >>= λ hlr. Some (version, hlr))
unfolding header_in
number_of_length One number = cond-false (nat_lt (length (mark_of One ++ number)) 5) None (digits_in number >>= λ hlr. Some (One, hlr))
    (le-ltb (length (mark_of One ++ number)) 5 (omega (arith, length-append (mark_of One) number)))
number_of_length Two number = cond-false (nat_lt (length (mark_of Two ++ number)) 5) None (digits_in number >>= λ hlr. Some (Two, hlr))
    (le-ltb (length (mark_of Two ++ number)) 5 (omega (arith, length-append (mark_of Two) number)))

pub header_again : (line : List ℕ) (version : Version) (hlr : List ℕ) → IsHeader line version hlr → header_in line ≡ Some (version, hlr)
header_again line version hlr h = ap header_in h.1 ∙ number_of_length version h.0 ∙ ap (λ o. o >>= λ d. Some (version, d)) (number_again h.0 hlr h.2)
