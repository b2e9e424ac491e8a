-- The worked examples of records files, as they are read.
use Rattle.std.proofs.Common.{refl}
use Rattle.hex.specs.Hex.{decode_pairs}
use Rattle.texts.specs.Lines.{lines}
use Rattle.records.specs.Reading.{codes_after, codes_in, contents_of, header_in, prefixes_after, record_of, records_after, register_in, register_of, roam_in, subscriber_from, subscriber_of}
use Rattle.records.specs.Examples as example

pub read_files : example.ReadFiles
unfolding decode_pairs lines contents_of header_in records_after record_of subscriber_of subscriber_from codes_in codes_after roam_in prefixes_after register_in register_of
read_files = record {
  whole = refl;
  imsi_twice_fault = refl;
  msisdn_twice_fault = refl;
  nine_prefixes_fault = refl;
  withdrawn_and_served_fault = refl;
  sixth_field_fault = refl;
  code_twice_fault = refl;
  short_imsi_fault = refl;
  long_imsi_fault = refl;
  other_header_fault = refl;
}
