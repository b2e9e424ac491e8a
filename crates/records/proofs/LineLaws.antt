-- What a line reads to is what it stands for.
use Rattle.std.proofs.Common.{◌≡◌, ℕ, Bool, true, false, cond, List, [], ◌∷◌, ◌++◌, length, take, drop, refl, sym, ap, subst, ◌∙◌, inl, inr}
use Rattle.std.specs.Prelude.{◌&&◌, nat_le, nat_lt, Option, Some, None, Ok, Err, is_some, codes}
use Rattle.std.specs.Result.{result_ok}
use Rattle.hlr_types.specs.declared.tbcd.TbcdFault.TheVariants.{BadCount}
use Rattle.std.specs.List.{join_with_byte}
use Rattle.std.proofs.lemmas.Bool.{and_parts, leb-true, false≢true}
use Rattle.std.proofs.lemmas.Option.{cond_some}
use Rattle.std.proofs.lemmas.List.{take-append-drop}
use Rattle.hlr_types.specs.Digits.{AreImsiDigits}
use Rattle.hlr_types.specs.DigitTexts.{digits_in}
use Rattle.hlr_types.specs.Identities.{imsi_from}
use Rattle.records.specs.declared.version.Version.{Version}
use Rattle.records.specs.declared.version.Version.TheVariants.{One, Two}
use Rattle.records.specs.Subscriber.{Subscriber}
use Rattle.texts.specs.Lines.{parts}
use Rattle.records.specs.Reading.{is_text, codes_in, roam_in, register_in, withdrawn_in, subscriber_of, subscriber_from, record_of, version_in, header_in, imsi_in}
use Rattle.records.specs.Spelling.{IsNumber, IsImsiNumber, IsCodes, IsRoam, IsRegister, IsRecordLine, IsHeader, MayBeWithdrawn, sixth, withdrawn_text, mark_of}
use Rattle.records.proofs.FieldLaws.{bind_some, guard_none, chosen, number_found, codes_found, roam_found, register_found, withdrawn_found, is_text_true, joined_again}

counted : (b : Bool) (d e : List ℕ) → result_ok (cond b (Ok d) (Err BadCount)) ≡ Some e → (b ≡ true) × (d ≡ e)
counted true d e is = (refl, cc)
counted false d e is = absurd cc

imsi_by : (text digits imsi : List ℕ) → digits_in text ≡ Some digits → result_ok (imsi_from digits) ≡ Some imsi → imsi_in text ≡ Some imsi
imsi_by text digits imsi e is = rw e is

pub imsi_found : (text digits : List ℕ) → imsi_in text ≡ Some digits → IsImsiNumber text digits
imsi_found text digits e =
    let b = bind_some (digits_in text) _ digits e in
    let c = counted (nat_le 5 (length b.0) && nat_le (length b.0) 15) b.0 digits b.2 in
    let r = and_parts (nat_le 5 (length b.0)) (nat_le (length b.0) 15) c.0 in
    let count : AreImsiDigits b.0 = record { least = leb-true 5 (length b.0) r.0; most = leb-true (length b.0) 15 r.1 } in
    (subst (IsNumber text) c.1 (number_found text b.0 b.1), subst AreImsiDigits c.1 count)

pub record SubscriberFound (imsi msisdn codes roam register : List ℕ) (withdrawn : Bool) (s : Subscriber) : Type 0 where
  pub is_imsi : IsImsiNumber imsi s.imsi
  pub is_msisdn : IsNumber msisdn s.msisdn
  pub is_codes : IsCodes codes s.codes
  pub is_roam : IsRoam roam s.roam
  pub is_register : IsRegister register s.register s.purged
  pub same : s.withdrawn ≡ withdrawn
  pub free : withdrawn ≡ true → s.register ≡ None
  pub no_current : s.current ≡ None

none_there : {A : Type 0} (o : Option A) → is_some o ≡ false → o ≡ None
none_there None e = refl
none_there (Some x) e = absurd (false≢true (sym e))

free_of : {A : Type 0} (w : Bool) (o : Option A) → (w && is_some o) ≡ false → w ≡ true → o ≡ None
free_of true o e is = none_there o e
free_of false o e is = absurd (false≢true is)

pub subscriber_found : (imsi msisdn codes roam register : List ℕ) (w : Bool) (s : Subscriber) → subscriber_of imsi msisdn codes roam register w ≡ Some s
    → SubscriberFound imsi msisdn codes roam register w s
unfolding subscriber_of subscriber_from
subscriber_found imsi msisdn codes roam register w s e =
    let digits = bind_some (digits_in imsi) _ s e in
    let m = bind_some (digits_in msisdn) _ s digits.2 in
    let i = bind_some (result_ok (imsi_from digits.0)) _ s m.2 in
    let c = bind_some (codes_in codes) _ s i.2 in
    let ro = bind_some (roam_in roam) _ s c.2 in
    let re = bind_some (register_in register) _ s ro.2 in
    let g = guard_none (w && is_some re.0.0) _ s re.2 in
    let made : Subscriber = record { imsi = i.0; msisdn = m.0; codes = c.0; roam = ro.0; register = re.0.0; purged = re.0.1; current = None; withdrawn = w } in
    let same : made ≡ s = cc in
    subst (λ (x : Subscriber). SubscriberFound imsi msisdn codes roam register w x) same (record {
      is_imsi = imsi_found imsi i.0 (imsi_by imsi digits.0 i.0 digits.1 i.1);
      is_msisdn = number_found msisdn m.0 m.1;
      is_codes = codes_found codes c.0 c.1;
      is_roam = roam_found roam ro.0 ro.1;
      is_register = register_found register re.0 re.1;
      same = refl;
      free = free_of w re.0.0 g.0;
      no_current = refl;
    })

record RecordFound (version : Version) (ps : List (List ℕ)) (s : Subscriber) : Type 0 where
  imsi : List ℕ
  msisdn : List ℕ
  codes : List ℕ
  roam : List ℕ
  register : List ℕ
  fields : ps ≡ imsi ∷ msisdn ∷ codes ∷ roam ∷ register ∷ sixth version s.withdrawn
  found : SubscriberFound imsi msisdn codes roam register s.withdrawn s
  may : MayBeWithdrawn version s

record_in_found : (version : Version) (ps : List (List ℕ)) (s : Subscriber) → record_of version ps ≡ Some s → RecordFound version ps s
unfolding record_of
record_in_found One (imsi ∷ msisdn ∷ codes ∷ roam ∷ register ∷ []) s e =
    let f = subscriber_found imsi msisdn codes roam register false s e in
    record {
      imsi = imsi;
      msisdn = msisdn;
      codes = codes;
      roam = roam;
      register = register;
      fields = refl;
      found = subst (λ (b : Bool). SubscriberFound imsi msisdn codes roam register b s) (sym f.same) f;
      may = f.same;
    }
record_in_found One [] s e = absurd cc
record_in_found One (a ∷ []) s e = absurd cc
record_in_found One (a ∷ b ∷ []) s e = absurd cc
record_in_found One (a ∷ b ∷ c ∷ []) s e = absurd cc
record_in_found One (a ∷ b ∷ c ∷ d ∷ []) s e = absurd cc
record_in_found One (a ∷ b ∷ c ∷ d ∷ f ∷ g ∷ ps) s e = absurd cc
record_in_found Two (imsi ∷ msisdn ∷ codes ∷ roam ∷ register ∷ mark ∷ []) s e =
    let w = bind_some (withdrawn_in mark) _ s e in
    let f = subscriber_found imsi msisdn codes roam register w.0 s w.2 in
    let is_mark : mark ≡ withdrawn_text s.withdrawn = withdrawn_found mark w.0 w.1 ∙ ap withdrawn_text (sym f.same) in
    record {
      imsi = imsi;
      msisdn = msisdn;
      codes = codes;
      roam = roam;
      register = register;
      fields = ap (λ (t : List ℕ). imsi ∷ msisdn ∷ codes ∷ roam ∷ register ∷ t ∷ []) is_mark;
      found = subst (λ (b : Bool). SubscriberFound imsi msisdn codes roam register b s) (sym f.same) f;
      may = λ is. f.free (sym f.same ∙ is);
    }
record_in_found Two [] s e = absurd cc
record_in_found Two (a ∷ []) s e = absurd cc
record_in_found Two (a ∷ b ∷ []) s e = absurd cc
record_in_found Two (a ∷ b ∷ c ∷ []) s e = absurd cc
record_in_found Two (a ∷ b ∷ c ∷ d ∷ []) s e = absurd cc
record_in_found Two (a ∷ b ∷ c ∷ d ∷ f ∷ []) s e = absurd cc
record_in_found Two (a ∷ b ∷ c ∷ d ∷ f ∷ g ∷ h ∷ ps) s e = absurd cc

-- what is read from a line is what it stands for
pub record_found : (version : Version) (line : List ℕ) (s : Subscriber) → record_of version (parts 32 line) ≡ Some s → IsRecordLine version line s
record_found version line s e =
    let r = record_in_found version (parts 32 line) s e in
    record {
      imsi = r.imsi;
      msisdn = r.msisdn;
      codes = r.codes;
      roam = r.roam;
      register = r.register;
      fields = joined_again 32 line ∙ ap (join_with_byte 32) r.fields;
      is_imsi = r.found.is_imsi;
      is_msisdn = r.found.is_msisdn;
      is_codes = r.found.is_codes;
      is_roam = r.found.is_roam;
      is_register = r.found.is_register;
      may_be_withdrawn = r.may;
      no_current = r.found.no_current;
    }

version_found : (text : List ℕ) (version : Version) → version_in text ≡ Some version → text ≡ mark_of version
version_found text version e =
    elim (chosen (is_text text (codes "HLR1 ")) One (cond (is_text text (codes "HLR2 ")) (Some Two) None) version e) [
      | inl p ↦ subst (λ (v : Version). text ≡ mark_of v) p.1 (is_text_true text (codes "HLR1 ") p.0)
      | inr p ↦ let q = cond_some (is_text text (codes "HLR2 ")) Two version p.1 in
          subst (λ (v : Version). text ≡ mark_of v) q.1 (is_text_true text (codes "HLR2 ") q.0)
    ]

pub header_found : (line : List ℕ) (h : Version × List ℕ) → header_in line ≡ Some h → IsHeader line h.0 h.1
unfolding header_in
header_found line h e =
    let g = guard_none (nat_lt (length line) 5) _ h e in
    let v = bind_some (version_in (take 5 line)) _ h g.1 in
    let d = bind_some (digits_in (drop 5 line)) _ h v.2 in
    let made : Version × List ℕ = (v.0, d.0) in
    let same : made ≡ h = cc in
    subst (λ (x : Version × List ℕ). IsHeader line x.0 x.1) same (
      drop 5 line,
      sym (take-append-drop 5 line) ∙ ap (λ (t : List ℕ). t ++ drop 5 line) (version_found (take 5 line) v.0 v.1),
      number_found
          (drop 5 line) d.0 d.1,
    )
