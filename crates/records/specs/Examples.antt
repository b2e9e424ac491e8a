-- Worked examples of records files.
use Rattle.std.specs.Prelude.{ℕ, ◌-◌, List, [], ◌∷◌, ◌++◌, map, true, false, Some, None, Ok, Err, ◌≡◌, codes as text}
use Rattle.records.specs.declared.fault.RecordsFault.TheVariants.{BadLine, Twice}
use Rattle.texts.specs.Lines.{lines}
use Rattle.records.specs.File.{Contents, File, IsBadLine, IsTwice}
use Rattle.records.specs.Reading.{contents_of}

-- the digits of a text
abbrev pub digits : List ℕ → List ℕ
digits written = map (λ character. character - 48) written

-- lines, each with its line feed
abbrev pub with_feeds : List (List ℕ) → List ℕ
with_feeds [] = []
with_feeds (line ∷ more) = line ++ 10 ∷ with_feeds more

-- A file of version 2 with a subscriber who has two roaming prefixes and is purged, and one who is withdrawn.
abbrev pub two_records : List ℕ
two_records =
    with_feeds (text "HLR2 447700900100" ∷ text "234150000000001 447700900000 11,2A 4477,4478 447700900011,447700900001,0102030a,p a" ∷ text "234150000000002 447700900202 - * - w" ∷ [])

abbrev pub two_subscribers : Contents
two_subscribers = record {
  hlr = digits (text "447700900100");
  records =
      record {
        imsi = digits (text "234150000000001");
        msisdn = digits (text "447700900000");
        codes = 0x11 ∷ 0x2A ∷ [];
        roam = Some (digits (text "4477") ∷ digits (text "4478") ∷ []);
        register = Some (record { vlr = digits (text "447700900011"); msc = digits (text "447700900001"); lmsi = Some (1 ∷ 2 ∷ 3 ∷ 10 ∷ []) });
        purged = true;
        current = None;
        withdrawn = false;
      }
      ∷ record {
        imsi = digits (text "234150000000002");
        msisdn = digits (text "447700900202");
        codes = [];
        roam = None;
        register = None;
        purged = false;
        current = None;
        withdrawn = true;
      }
      ∷ [];
}

-- one IMSI on two lines
abbrev pub imsi_twice : List ℕ
imsi_twice =
    with_feeds (text "HLR1 447700900100" ∷ text "234150000000001 447700900000 - * -" ∷ text "234150000000001 447700900202 - * -" ∷ [])

-- one MSISDN on two lines
abbrev pub msisdn_twice : List ℕ
msisdn_twice =
    with_feeds (text "HLR1 447700900100" ∷ text "234150000000001 447700900000 - * -" ∷ text "234150000000002 447700900000 - * -" ∷ [])

-- nine prefixes
abbrev pub nine_prefixes : List ℕ
nine_prefixes = with_feeds (text "HLR1 447700900100" ∷ text "234150000000001 447700900000 - 1,2,3,4,5,6,7,8,9 -" ∷ [])

-- a withdrawn subscriber with a register
abbrev pub withdrawn_and_served : List ℕ
withdrawn_and_served = with_feeds (text "HLR2 447700900100" ∷ text "234150000000001 447700900000 - * 447700900011,447700900001,-,s w" ∷ [])

-- a sixth field in version 1
abbrev pub sixth_field : List ℕ
sixth_field = with_feeds (text "HLR1 447700900100" ∷ text "234150000000001 447700900000 - * - a" ∷ [])

-- a code twice
abbrev pub code_twice : List ℕ
code_twice = with_feeds (text "HLR1 447700900100" ∷ text "234150000000001 447700900000 11,11 * -" ∷ [])

-- an IMSI of four digits, and one of sixteen
abbrev pub short_imsi : List ℕ
short_imsi = with_feeds (text "HLR1 447700900100" ∷ text "2341 447700900000 - * -" ∷ [])

abbrev pub long_imsi : List ℕ
long_imsi = with_feeds (text "HLR1 447700900100" ∷ text "2341500000000012 447700900000 - * -" ∷ [])

-- another version
abbrev pub other_header : List ℕ
other_header = with_feeds (text "HLR3 447700900100" ∷ [])

-- What these files say, and their first faults.
pub record WorkedFiles : Type 0 where
  pub whole : File two_records two_subscribers
  pub imsi_twice_fault : IsTwice imsi_twice 3
  pub msisdn_twice_fault : IsTwice msisdn_twice 3
  pub nine_prefixes_fault : IsBadLine nine_prefixes 2
  pub withdrawn_and_served_fault : IsBadLine withdrawn_and_served 2
  pub sixth_field_fault : IsBadLine sixth_field 2
  pub code_twice_fault : IsBadLine code_twice 2
  pub short_imsi_fault : IsBadLine short_imsi 2
  pub long_imsi_fault : IsBadLine long_imsi 2
  pub other_header_fault : IsBadLine other_header 1

-- What is read of them.
pub record ReadFiles : Type 0 where
  pub whole : contents_of (lines two_records) ≡ Ok two_subscribers
  pub imsi_twice_fault : contents_of (lines imsi_twice) ≡ Err (Twice 3)
  pub msisdn_twice_fault : contents_of (lines msisdn_twice) ≡ Err (Twice 3)
  pub nine_prefixes_fault : contents_of (lines nine_prefixes) ≡ Err (BadLine 2)
  pub withdrawn_and_served_fault : contents_of (lines withdrawn_and_served) ≡ Err (BadLine 2)
  pub sixth_field_fault : contents_of (lines sixth_field) ≡ Err (BadLine 2)
  pub code_twice_fault : contents_of (lines code_twice) ≡ Err (BadLine 2)
  pub short_imsi_fault : contents_of (lines short_imsi) ≡ Err (BadLine 2)
  pub long_imsi_fault : contents_of (lines long_imsi) ≡ Err (BadLine 2)
  pub other_header_fault : contents_of (lines other_header) ≡ Err (BadLine 1)
