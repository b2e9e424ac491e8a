-- What is saved is a records file.
use Rattle.std.proofs.Common.{◌≡◌, ℕ, Bool, false, List, [], ◌∷◌, ◌++◌, map, refl, ap, ◌∙◌, arith, inl, inr, append_assoc}
use Rattle.std.specs.Prelude.{Option, Some, None}
use Rattle.std.specs.List.{AllByRecursion, flat_map}
use Rattle.hex.specs.Hex.{decode_of}
use Rattle.hex.proofs.HexLemmas.{decode_of-encode_upper}
use Rattle.hlr_types.specs.declared.register.Register.{Register}
use Rattle.hlr_types.specs.Digits.{AreSomeDigits}
use Rattle.hlr_types.specs.DigitTexts.{text_of}
use Rattle.records.specs.declared.version.Version.TheVariants.{Two}
use Rattle.records.specs.declared.version.Version.{Version}
use Rattle.records.specs.declared.version.Version.TheVariants.{One}
use Rattle.records.specs.Subscriber.{Subscriber, AreAllowed, AreOctets, MayRoam, MayHaveLmsi, MayServe, IsRecord, unmarked}
use Rattle.texts.specs.Lines.{parts, lines}
use Rattle.records.specs.Spelling.{IsNumber, IsCode, Each, IsCodes, IsRoam, IsLmsiField, IsRegister, IsRecordLine, MayBeWithdrawn, mark_of, sixth}
use Rattle.records.specs.File.{Share, AreApart}
use Rattle.records.specs.Written.{code_text, codes_text, roam_text, lmsi_text, register_text, record_line, header_line, saved_file, SavedIsRead}
use Rattle.records.proofs.OctetLemmas.{bytes}
use Rattle.records.proofs.WrittenLemmas.{octets_listed}
use Rattle.texts.proofs.LinesLemmas.{lines_nil, lines_more}
use Rattle.records.proofs.AgainFields.{Lacks, Lacks-append, Lacks-join, Lacks-digits, parts-front}
use Rattle.records.proofs.AgainLines.{line_feed, fields_lack}

each_code : (cs : List ℕ) → AreOctets cs → Each IsCode (map code_text cs) cs
each_code [] h = tt
each_code (c ∷ cs) h = (decode_of-encode_upper (c ∷ []) (bytes (c ∷ []) (h.0, tt)), each_code cs h.1)

is_codes : (cs : List ℕ) → AreAllowed cs → AreOctets cs → IsCodes (codes_text cs) cs
is_codes [] h octets = inl (refl, refl)
is_codes (c ∷ cs) h octets = inr (
  record {
    texts = map code_text (c ∷ cs);
    joined = refl;
    each = each_code
        (c ∷ cs) octets;
    some = omega arith;
    most = h.most;
  },
  h.different,
)

each_number : (ps : List (List ℕ)) → AllByRecursion AreSomeDigits ps → Each IsNumber (map text_of ps) ps
each_number [] h = tt
each_number (p ∷ ps) h = ((refl, h.0), each_number ps h.1)

is_roam : (roam : Option (List (List ℕ))) → MayRoam roam → IsRoam (roam_text roam) roam
is_roam None h = refl
is_roam (Some ps) h = record { texts = map text_of ps; joined = refl; each = each_number ps h.2; some = h.0; most = h.1 }

is_lmsi : (lmsi : Option (List ℕ)) → MayHaveLmsi lmsi → IsLmsiField (lmsi_text lmsi) lmsi
is_lmsi None h = refl
is_lmsi (Some lmsi) h = (ap decode_of (octets_listed lmsi) ∙ decode_of-encode_upper lmsi (bytes lmsi h.1), h.0)

is_register : (register : Option Register) (purged : Bool) → (register ≡ None → purged ≡ false) → MayServe register
    → IsRegister (register_text register purged) register purged
is_register None purged h k = (refl, h refl)
is_register (Some r) purged h k = (text_of r.vlr, text_of r.msc, lmsi_text r.lmsi, refl, (refl, k.0), (refl, k.1), is_lmsi r.lmsi k.2)

may_be : (version : Version) (s : Subscriber) → MayBeWithdrawn version s → MayBeWithdrawn version (unmarked s)
may_be One s h = h
may_be Two s h = h

-- the line that is written for a record stands for the record without its current update
pub is_record_line : (version : Version) (s : Subscriber) → IsRecord s → MayBeWithdrawn version s → IsRecordLine version (record_line version s) (unmarked s)
is_record_line version s h may = record {
  imsi = text_of s.imsi;
  msisdn = text_of s.msisdn;
  codes = codes_text s.codes;
  roam = roam_text s.roam;
  register = register_text s.register s.purged;
  fields = refl;
  is_imsi = ((refl, h.imsi), h.imsi_count);
  is_msisdn = (refl, h.msisdn);
  is_codes = is_codes s.codes h.codes h.octets;
  is_roam = is_roam s.roam h.roam;
  is_register = is_register s.register s.purged h.place.purged h.register;
  may_be_withdrawn = may_be version s may;
  no_current = refl;
}

line_lacks : (s : Subscriber) → IsRecord s → Lacks 10 (record_line Two s)
unfolding is_record_line
line_lacks s h =
    let l = is_record_line Two s h h.place.left in
    Lacks-join 10 32 (l.imsi ∷ l.msisdn ∷ l.codes ∷ l.roam ∷ l.register ∷ sixth Two s.withdrawn) refl
    (fields_lack 10 line_feed Two (record_line Two s) (unmarked s) l)

one_line : (line rest : List ℕ) → Lacks 10 line → lines ((line ++ 10 ∷ []) ++ rest) ≡ line ∷ lines rest
one_line line rest lacks =
    let cut : parts 10 ((line ++ 10 ∷ []) ++ rest) ≡ line ∷ parts 10 rest = ap (parts 10) (append_assoc line (10 ∷ []) rest) ∙ parts-front 10 line rest lacks in
    lines_more ((line ++ 10 ∷ []) ++ rest) line rest cut

abbrev ended : List (List ℕ) → List ℕ
ended ls = flat_map (λ line. line ++ 10 ∷ []) ls

record_lines : (ss : List Subscriber) → AllByRecursion IsRecord ss → lines (ended (map (record_line Two) ss)) ≡ map (record_line Two) ss
record_lines [] h = lines_nil
record_lines (s ∷ ss) h =
    one_line (record_line Two s) (ended (map (record_line Two) ss)) (line_lacks s h.0) ∙ ap (λ (ls : List (List ℕ)). record_line Two s ∷ ls)
    (record_lines ss h.1)

each_line : (ss : List Subscriber) → AllByRecursion IsRecord ss → Each (IsRecordLine Two) (map (record_line Two) ss) (map unmarked ss)
each_line [] h = tt
each_line (s ∷ ss) h = (is_record_line Two s h.0 h.0.place.left, each_line ss h.1)

none_shares : (s : Subscriber) (ts : List Subscriber) → AllByRecursion (λ t. ¬ (Share s t)) ts
    → AllByRecursion (λ t. ¬ (Share (unmarked s) t)) (map unmarked ts)
none_shares s [] h = tt
none_shares s (t ∷ ts) h = (h.0, none_shares s ts h.1)

apart_unmarked : (ss : List Subscriber) → AreApart ss → AreApart (map unmarked ss)
apart_unmarked [] h = tt
apart_unmarked (s ∷ ss) h = (none_shares s ss h.0, apart_unmarked ss h.1)

mark_lacks : Lacks 10 (mark_of Two)
mark_lacks = (refl, (refl, (refl, (refl, (refl, tt)))))

pub saved_is_read : SavedIsRead
saved_is_read hlr ss digits facts apart = record {
  version = Two;
  header = header_line Two hlr;
  below = map (record_line Two) ss;
  whole = one_line (header_line Two hlr) (ended (map (record_line Two) ss))
      (Lacks-append 10 (mark_of Two) (text_of hlr) mark_lacks (Lacks-digits 10 hlr (omega arith)))
      ∙ ap (λ (ls : List (List ℕ)). header_line Two hlr ∷ ls) (record_lines ss facts);
  are_lines = record { is_header = (text_of hlr, refl, (refl, digits)); are_records = each_line ss facts; are_apart = apart_unmarked ss apart };
}

-- ---- a list of references to records

lines_as : {A : Type 0} (now : A → Subscriber) (rs : List A) → flat_map (λ s. record_line Two (now s) ++ 10 ∷ []) rs
    ≡ ended (map (record_line Two) (map now rs))
lines_as now [] = refl
lines_as now (r ∷ rs) = ap (λ (t : List ℕ). (record_line Two (now r) ++ 10 ∷ []) ++ t) (lines_as now rs)

pub saved_text : {A : Type 0} (now : A → Subscriber) (hlr : List ℕ) (rs : List A) (o0 o1 o2 : List ℕ) → o0 ≡ [] → o1 ≡ o0 ++ (header_line Two hlr ++ 10 ∷ [])
    → o2 ≡ o1 ++ flat_map (λ s. record_line Two (now s) ++ 10 ∷ []) rs → o2 ≡ saved_file hlr (map now rs)
saved_text now hlr rs o0 o1 o2 e0 e1 e2 =
    e2 ∙ ap (λ (t : List ℕ). t ++ flat_map (λ s. record_line Two (now s) ++ 10 ∷ []) rs) (e1 ∙ ap (λ (t : List ℕ). t ++ (header_line Two hlr ++ 10 ∷ [])) e0)
    ∙ ap (λ (t : List ℕ). (header_line Two hlr ++ 10 ∷ []) ++ t) (lines_as now rs)

pub facts_as : {A : Type 0} (now : A → Subscriber) (rs : List A) → AllByRecursion (λ s. IsRecord (now s)) rs → AllByRecursion IsRecord (map now rs)
facts_as now [] h = tt
facts_as now (r ∷ rs) h = (h.0, facts_as now rs h.1)
