-- What a field, a line and a list of lines read to. Private functions cite these; the form of the file is in `Spelling`
-- and `File`.
use Rattle.std.specs.Prelude.{take, drop, Result, Ok, Err, ◌≡◌, ℕ, ◌+◌, ◌==◌, Bool, true, false, ◌&&◌, nat_lt, nat_eq, is_some, List, [], ◌∷◌, ◌++◌, length, map as each, Option, Some, None, option_map, slice_index, if◌then◌else◌, codes as text}
use Rattle.std.specs.List.{list_any}
use Rattle.std.specs.Result.{result_ok}
use Rattle.std.specs.Cmp.Lexicographic.{pointwise}
use Rattle.std.specs.FinMap as map
use Rattle.hex.specs.Hex.{decode_sized}
use Rattle.hlr_types.specs.declared.register.Register.{Register}
use Rattle.hlr_types.specs.DigitTexts.{digits_in}
use Rattle.hlr_types.specs.Identities.{imsi_from}
use Rattle.records.specs.declared.version.Version.{Version}
use Rattle.records.specs.declared.version.Version.TheVariants.{One, Two}
use Rattle.records.specs.declared.fault.RecordsFault.{RecordsFault}
use Rattle.records.specs.declared.fault.RecordsFault.TheVariants.{BadLine, Twice, Memory}
use Rattle.records.specs.Subscriber.{Subscriber}
use Rattle.records.specs.Maps.{digits_cmp}
use Rattle.texts.specs.Lines.{parts}
use Rattle.records.specs.File.{Contents}
use Rattle.records.specs.Loaded.{Subscribers, loaded_from, imsi_entry, msisdn_entry}

abbrev pub and_then : {A B E : Type 0} → (A → Result B E) → Result A E → Result B E
and_then f (Ok x) = f x
and_then f (Err e) = Err e

infixl 10 ◌>>=◌
abbrev pub ◌>>=◌ : {A B : Type 0} → Option A → (A → Option B) → Option B
None >>= f = None
(Some x) >>= f = f x

abbrev pub is_text : List ℕ → List ℕ → Bool
is_text a b = pointwise nat_eq a b

-- The digits that the first part is, and the parts after it, of which there is one.
abbrev pub first_digits : List (List ℕ) → Option (List ℕ × List (List ℕ))
first_digits (first ∷ next ∷ more) = option_map (λ digits. (digits, next ∷ more)) (digits_in first)
first_digits _ = None

-- ---- fields

abbrev pub imsi_in : List ℕ → Option (List ℕ)
imsi_in field = digits_in field >>= λ digits. result_ok (imsi_from digits)

abbrev pub octet_in : List ℕ → Option ℕ
octet_in part = option_map (λ octets. slice_index octets 0) (result_ok (decode_sized part 1))

-- The codes found so far, and those of the parts that are left.
unfoldable pub codes_after : List ℕ → List (List ℕ) → Option (List ℕ)
codes_after found [] = Some found
codes_after found (part ∷ more) = octet_in part >>= λ code.
    if list_any (λ c. c == code) found then None
    else if nat_lt (length found) 32 then codes_after (found ++ code ∷ []) more else None

unfoldable pub codes_in : List ℕ → Option (List ℕ)
codes_in field = if is_text field (text "-") then Some [] else codes_after [] (parts 44 field)

unfoldable pub prefixes_after : List (List ℕ) → List (List ℕ) → Option (List (List ℕ))
prefixes_after found [] = Some found
prefixes_after found (part ∷ more) = digits_in part >>= λ digits.
    if nat_lt (length found) 8 then prefixes_after (found ++ digits ∷ []) more else None

unfoldable pub roam_in : List ℕ → Option (Option (List (List ℕ)))
roam_in field = if is_text field (text "*") then Some None else option_map (λ ps. Some ps) (prefixes_after [] (parts 44 field))

abbrev pub lmsi_in : List ℕ → Option (Option (List ℕ))
lmsi_in field = if is_text field (text "-") then Some None else option_map (λ octets. Some octets) (result_ok (decode_sized field 4))

abbrev pub purged_in : List ℕ → Option Bool
purged_in field = if is_text field (text "p") then Some true else if is_text field (text "s") then Some false else None

abbrev pub withdrawn_in : List ℕ → Option Bool
withdrawn_in field = if is_text field (text "w") then Some true else if is_text field (text "a") then Some false else None

unfoldable pub register_of : List (List ℕ) → Option (Register × Bool)
register_of (vlr ∷ msc ∷ lmsi ∷ mark ∷ []) =
    digits_in vlr >>= λ v. digits_in msc >>= λ m. lmsi_in lmsi >>= λ l. purged_in mark >>= λ p. Some (record { vlr = v; msc = m; lmsi = l }, p)
register_of _ = None

-- The same after the numbers of the VLR and the MSC.
unfoldable pub register_after : List ℕ → List ℕ → List (List ℕ) → Option (Register × Bool)
register_after vlr msc (lmsi ∷ mark ∷ []) = lmsi_in lmsi >>= λ l. purged_in mark >>= λ p. Some (record { vlr = vlr; msc = msc; lmsi = l }, p)
register_after vlr msc _ = None

unfoldable pub register_in : List ℕ → Option (Option Register × Bool)
register_in field = if is_text field (text "-") then Some (None, false) else register_of (parts 44 field) >>= λ r. Some (Some r.0, r.1)

-- ---- lines

-- The record of the digits of an IMSI and of an MSISDN, and of the other fields.
unfoldable pub subscriber_from : List ℕ → List ℕ → List ℕ → List ℕ → List ℕ → Bool → Option Subscriber
subscriber_from imsi msisdn codes roam register withdrawn =
    result_ok (imsi_from imsi) >>= λ i. codes_in codes >>= λ c. roam_in roam >>= λ ro. register_in register >>= λ re.
    if withdrawn && is_some re.0
    then None
    else Some (record { imsi = i; msisdn = msisdn; codes = c; roam = ro; register = re.0; purged = re.1; current = None; withdrawn = withdrawn })

unfoldable pub subscriber_of : List ℕ → List ℕ → List ℕ → List ℕ → List ℕ → Bool → Option Subscriber
subscriber_of imsi msisdn codes roam register withdrawn =
    digits_in imsi >>= λ i. digits_in msisdn >>= λ m. subscriber_from i m codes roam register withdrawn

-- The record of a line's fields: five, and a sixth in version 2.
unfoldable pub record_of : Version → List (List ℕ) → Option Subscriber
record_of One (imsi ∷ msisdn ∷ codes ∷ roam ∷ register ∷ []) = subscriber_of imsi msisdn codes roam register false
record_of Two (imsi ∷ msisdn ∷ codes ∷ roam ∷ register ∷ mark ∷ []) = withdrawn_in mark >>= λ w. subscriber_of imsi msisdn codes roam register w
record_of _ _ = None

-- The same after the numbers of an IMSI and an MSISDN.
unfoldable pub record_after : Version → List ℕ → List ℕ → List (List ℕ) → Option Subscriber
record_after One imsi msisdn (codes ∷ roam ∷ register ∷ []) = subscriber_from imsi msisdn codes roam register false
record_after Two imsi msisdn (codes ∷ roam ∷ register ∷ mark ∷ []) = withdrawn_in mark >>= λ w. subscriber_from imsi msisdn codes roam register w
record_after _ imsi msisdn _ = None

abbrev pub version_in : List ℕ → Option Version
version_in mark = if is_text mark (text "HLR1 ") then Some One else if is_text mark (text "HLR2 ") then Some Two else None

unfoldable pub header_in : List ℕ → Option (Version × List ℕ)
header_in line =
    if nat_lt (length line) 5 then None
    else version_in (take 5 line) >>= λ version. digits_in (drop 5 line) >>= λ hlr. Some (version, hlr)

-- ---- many lines

abbrev pub at_imsi : List Subscriber → List ℕ → Option Subscriber
at_imsi found imsi = map.find digits_cmp imsi (each imsi_entry found)

abbrev pub at_msisdn : List Subscriber → List ℕ → Option (List ℕ)
at_msisdn found msisdn = map.find digits_cmp msisdn (each msisdn_entry found)

-- The records with that of line n, if the line has one.
abbrev pub with_line : List Subscriber → ℕ → Option Subscriber → Result (List Subscriber) RecordsFault
with_line found n None = Err (BadLine n)
with_line found n (Some s) =
    if is_some (at_imsi found s.imsi) then Err (Twice n)
    else if is_some (at_msisdn found s.msisdn) then Err (Twice n)
    else Ok (found ++ s ∷ [])

-- The records found so far, and those of the lines from line n on.
unfoldable pub records_after : Version → List Subscriber → ℕ → List (List ℕ) → Result (List Subscriber) RecordsFault
records_after version found n [] = Ok found
records_after version found n (line ∷ more) =
    and_then (λ next. records_after version next (n + 1) more) (with_line found n (record_of version (parts 32 line)))

abbrev pub with_hlr : List ℕ → List Subscriber → Contents
with_hlr hlr found = record { hlr = hlr; records = found }

abbrev pub contents_below : Option (Version × List ℕ) → List (List ℕ) → Result Contents RecordsFault
contents_below None below = Err (BadLine 1)
contents_below (Some h) below = and_then (λ found. Ok (with_hlr h.1 found)) (records_after h.0 [] 2 below)

unfoldable pub contents_of : List (List ℕ) → Result Contents RecordsFault
contents_of [] = Err (BadLine 1)
contents_of (header ∷ below) = contents_below (header_in header) below

-- ---- what a call answers

-- The result is what the contents say, unless memory ran out.
abbrev pub Answers : Result Subscribers RecordsFault → Result Contents RecordsFault → Type 0
Answers (Ok loaded) read = (contents : Contents) × (read ≡ Ok contents) × (loaded ≡ loaded_from contents)
Answers (Err (BadLine n)) read = read ≡ Err (BadLine n)
Answers (Err (Twice n)) read = read ≡ Err (Twice n)
Answers (Err Memory) read = Unit {0}

-- The contents of the lines below the header.
abbrev pub below_header : Version → List ℕ → List (List ℕ) → Result Contents RecordsFault
below_header version hlr all = and_then (λ found. Ok (with_hlr hlr found)) (records_after version [] 2 all)
