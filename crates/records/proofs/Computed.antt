-- The worked examples of records files.
use Rattle.std.proofs.Common.{◌≡◌, ℕ, List, refl, ⊎_elim, sym, subst}
use Rattle.std.specs.Prelude.{Err}
use Rattle.hex.specs.Hex.{decode_pairs}
use Rattle.records.specs.declared.fault.RecordsFault.TheVariants.{BadLine, Twice}
use Rattle.texts.specs.Lines.{lines}
use Rattle.records.specs.File.{IsBadLine, IsTwice}
use Rattle.records.specs.Reading.{codes_after, codes_in, contents_of, header_in, prefixes_after, record_of, records_after, register_in, register_of, roam_in, subscriber_from, subscriber_of}
use Rattle.records.specs.Examples as example
use Rattle.records.proofs.FileLaws.{file_found}
use Rattle.records.proofs.AgainFiles.{file_fault}

same_line : (n m : ℕ) → BadLine n ≡ BadLine m → n ≡ m
same_line n m e = cc

same_twice : (n m : ℕ) → Twice n ≡ Twice m → n ≡ m
same_twice n m e = cc

bad_line : (written : List ℕ) (n : ℕ) → contents_of (lines written) ≡ Err (BadLine n) → IsBadLine written n
bad_line written n e = ⊎_elim
    (λ h. subst (IsBadLine written) (sym (same_line n h.0 h.1)) h.2)
    (λ h. let none : BadLine n ≡ Twice h.0 = h.1 in absurd (cc none))
    (file_fault written (BadLine n) e)

twice : (written : List ℕ) (n : ℕ) → contents_of (lines written) ≡ Err (Twice n) → IsTwice written n
twice written n e = ⊎_elim
    (λ h. let none : Twice n ≡ BadLine h.0 = h.1 in absurd (cc none))
    (λ h. subst (IsTwice written) (sym (same_twice n h.0 h.1)) h.2)
    (file_fault written (Twice n) e)

pub worked_files : example.WorkedFiles
unfolding decode_pairs lines contents_of header_in records_after record_of subscriber_of subscriber_from codes_in codes_after roam_in prefixes_after register_in register_of
worked_files = record {
  whole = file_found _ _ refl;
  imsi_twice_fault = twice _ 3 refl;
  msisdn_twice_fault = twice _ 3 refl;
  nine_prefixes_fault = bad_line _ 2 refl;
  withdrawn_and_served_fault = bad_line _ 2 refl;
  sixth_field_fault = bad_line _ 2 refl;
  code_twice_fault = bad_line _ 2 refl;
  short_imsi_fault = bad_line _ 2 refl;
  long_imsi_fault = bad_line _ 2 refl;
  other_header_fault = bad_line _ 1 refl;
}
