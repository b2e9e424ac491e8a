-- What is written: the line of a record in either version, and a saved file, which is of version 2. Hexadecimal digits are
-- in upper case.
use Rattle.std.specs.Prelude.{ℕ, Bool, List, [], ◌∷◌, ◌++◌, map as each, Option, Some, None, codes as text}
use Rattle.std.specs.List.{AllByRecursion, flat_map, join_with_byte}
use Rattle.hex.specs.Hex.{encode_upper}
use Rattle.hlr_types.specs.declared.register.Register.{Register}
use Rattle.hlr_types.specs.Digits.{AreSomeDigits}
use Rattle.hlr_types.specs.DigitTexts.{text_of}
use Rattle.records.specs.declared.version.Version.{Version}
use Rattle.records.specs.declared.version.Version.TheVariants.{Two}
use Rattle.records.specs.Subscriber.{Subscriber, IsRecord, unmarked}
use Rattle.records.specs.Spelling.{mark_of, purged_text, sixth}
use Rattle.records.specs.File.{Contents, File, AreApart}

-- An octet as two digits.
abbrev pub code_text : ℕ → List ℕ
code_text code = encode_upper (code ∷ [])

abbrev pub codes_text : List ℕ → List ℕ
codes_text [] = text "-"
codes_text (code ∷ more) = join_with_byte 44 (each code_text (code ∷ more))

abbrev pub roam_text : Option (List (List ℕ)) → List ℕ
roam_text None = text "*"
roam_text (Some prefixes) = join_with_byte 44 (each text_of prefixes)

abbrev pub lmsi_text : Option (List ℕ) → List ℕ
lmsi_text None = text "-"
lmsi_text (Some lmsi) = flat_map code_text lmsi

abbrev pub register_text : Option Register → Bool → List ℕ
register_text None purged = text "-"
register_text (Some r) purged = join_with_byte 44 (text_of r.vlr ∷ text_of r.msc ∷ lmsi_text r.lmsi ∷ purged_text purged ∷ [])

-- A record's line, without the line feed.
abbrev pub record_line : Version → Subscriber → List ℕ
record_line version s =
    join_with_byte 32 (text_of s.imsi ∷ text_of s.msisdn ∷ codes_text s.codes ∷ roam_text s.roam ∷ register_text s.register s.purged ∷ sixth version s.withdrawn)

abbrev pub header_line : Version → List ℕ → List ℕ
header_line version hlr = mark_of version ++ text_of hlr

-- The first line, and the lines of the records in this order, each ended by a line feed.
abbrev pub saved_file : List ℕ → List Subscriber → List ℕ
saved_file hlr ss = flat_map (λ line. line ++ 10 ∷ []) (header_line Two hlr ∷ each (record_line Two) ss)

-- The contents of a saved file: the records without their current updates.
abbrev pub saved_contents : List ℕ → List Subscriber → Contents
saved_contents hlr ss = record { hlr = hlr; records = each unmarked ss }

-- What is saved is read again: if no two records share an IMSI or an MSISDN, the saved file is a records file with them as
-- its contents.
abbrev pub SavedIsRead : Type 0
SavedIsRead = (hlr : List ℕ) (ss : List Subscriber) → AreSomeDigits hlr → AllByRecursion IsRecord ss → AreApart ss
    → File (saved_file hlr ss) (saved_contents hlr ss)

-- ---- lists as they are written, item by item

abbrev pub following_codes : List ℕ → List ℕ
following_codes codes = flat_map (λ code. 44 ∷ code_text code) codes

abbrev pub following_prefixes : List (List ℕ) → List ℕ
following_prefixes prefixes = flat_map (λ digits. 44 ∷ text_of digits) prefixes
