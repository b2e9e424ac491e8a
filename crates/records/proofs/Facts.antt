-- What is read has the facts of every record.
use Rattle.std.proofs.Common.{◌≡◌, ℕ, ◌∷◌, Bool, false, List, [], refl, sym, subst, ◌∙◌, arith, inl, inr}
use Rattle.std.specs.Prelude.{◌&&◌, is_some, Option, Some, None, IfSome}
use Rattle.std.specs.List.{AllByRecursion}
use Rattle.hlr_types.specs.declared.register.Register.{Register}
use Rattle.hlr_types.specs.Digits.{AreSomeDigits}
use Rattle.std.specs.Result.{result_ok}
use Rattle.hlr_types.specs.DigitTexts.{text_of}
use Rattle.hlr_types.specs.Identities.{imsi_from}
use Rattle.records.specs.Subscriber.{Subscriber, AreAllowed, AreOctets, MayRoam, MayServe, IsRecord}
use Rattle.records.specs.Spelling.{IsNumber, Each, IsCodes, IsRoam, IsRegister}
use Rattle.records.specs.Reading.{codes_in, roam_in, register_in, subscriber_of, subscriber_from}
use Rattle.records.proofs.FieldLaws.{none_twice, codes_found}
use Rattle.records.proofs.LineLaws.{subscriber_found}
use Rattle.records.proofs.AgainFields.{number_again}

no_codes : AreAllowed []
no_codes = record { most = omega arith; different = none_twice }

pub codes_allowed : (field codes : List ℕ) → IsCodes field codes → AreAllowed codes
codes_allowed field codes (inl h) = subst AreAllowed (sym h.1) no_codes
codes_allowed field codes (inr h) = record { most = h.0.most; different = h.1 }

each_prefix : (ts ps : List (List ℕ)) → Each IsNumber ts ps → AllByRecursion AreSomeDigits ps
each_prefix [] [] h = tt
each_prefix [] (p ∷ ps) h = absurd h
each_prefix (t ∷ ts) [] h = absurd h
each_prefix (t ∷ ts) (p ∷ ps) h = (h.0.1, each_prefix ts ps h.1)

roam_allowed : (field : List ℕ) (roam : Option (List (List ℕ))) → IsRoam field roam → MayRoam roam
roam_allowed field None h = tt
roam_allowed field (Some ps) h = (h.some, h.most, each_prefix h.texts ps h.each)

pub not_purged : (field : List ℕ) (register : Option Register) (purged : Bool) → IsRegister field register purged → register ≡ None → purged ≡ false
not_purged field None purged h e = h.1
not_purged field (Some r) purged h e = absurd cc

-- a line that is read is a record
pub keeps : (imsi msisdn codes roam register : List ℕ) (w : Bool) (s : Subscriber) → subscriber_of imsi msisdn codes roam register w ≡ Some s
    → AreOctets s.codes → MayServe s.register → IsRecord s
keeps imsi msisdn codes roam register w s e octets serves =
    let f = subscriber_found imsi msisdn codes roam register w s e in
    record {
      imsi = f.is_imsi.0.1;
      imsi_count = f.is_imsi.1;
      msisdn = f.is_msisdn.1;
      codes = codes_allowed codes s.codes f.is_codes;
      octets = octets;
      roam = roam_allowed roam s.roam f.is_roam;
      register = serves;
      place = record {
        purged = not_purged register s.register s.purged f.is_register;
        left = λ is. f.free (sym f.same ∙ is);
        unmarked = λ is. f.no_current;
      };
    }

-- ---- a field of codes

pub codes_read : (field : List ℕ) (read : Option (List ℕ)) → read ≡ codes_in field → IfSome read (λ codes. IsCodes field codes)
codes_read field None e = tt
codes_read field (Some codes) e = codes_found field codes (sym e)

pub codes_read_allowed : (field : List ℕ) (read : Option (List ℕ)) → read ≡ codes_in field → IfSome read (λ codes. AreAllowed codes)
codes_read_allowed field None e = tt
codes_read_allowed field (Some codes) e = codes_allowed field codes (codes_found field codes (sym e))

-- ---- a record of its fields

abbrev pub record_with : List ℕ → List ℕ → List ℕ → Option (List (List ℕ)) → Option Register → Bool → Bool → Subscriber
record_with imsi msisdn codes roam register purged withdrawn =
    record { imsi = imsi; msisdn = msisdn; codes = codes; roam = roam; register = register; purged = purged; current = None; withdrawn = withdrawn }

pub fields_keep : (imsi msisdn codes roam register : List ℕ) (w : Bool) (i cs : List ℕ) (ro : Option (List (List ℕ))) (re : Option Register) (p : Bool)
    → AreSomeDigits imsi → AreSomeDigits msisdn → result_ok (imsi_from imsi) ≡ Some i → codes_in codes ≡ Some cs → roam_in roam ≡ Some ro
    → register_in register ≡ Some (re, p) → (w && is_some re) ≡ false
    → AreOctets cs → MayServe re → IsRecord (record_with i msisdn cs ro re p w)
unfolding subscriber_of subscriber_from
fields_keep imsi msisdn codes roam register w i cs ro re p some_i some_m is_i is_c is_ro is_re left octets serves =
    let text_i = number_again (text_of imsi) imsi (refl, some_i) in
    let text_m = number_again (text_of msisdn) msisdn (refl, some_m) in
    let read : subscriber_of (text_of imsi) (text_of msisdn) codes roam register w ≡ Some (record_with i msisdn cs ro re p w) =
    rw (text_i, text_m, is_i, is_c, is_ro, is_re, left) refl in
    keeps (text_of imsi) (text_of msisdn) codes roam register w (record_with i msisdn cs ro re p w) read octets serves
