-- What is loaded from a records file.
use Rattle.std.specs.Prelude.{ℕ, List, map as each, refl}
use Rattle.std.specs.FinMap as map
use Rattle.std.specs.Coded.{Coded, code_by, coded×}
use Rattle.records.specs.Subscriber.{Subscriber, coded_digits}
use Rattle.records.specs.Maps.{RecordMap, record_map_code, DirectoryMap, directory_map_code}
use Rattle.records.specs.File.{Contents}

-- The HLR number, the records by IMSI, and the IMSIs by MSISDN.
pub record Subscribers : Type 0 where
  pub hlr : List ℕ
  pub records : RecordMap
  pub directory : DirectoryMap

abbrev pub subscribers_code : Coded Subscribers
subscribers_code =
    code_by (List ℕ × (RecordMap × DirectoryMap)) (coded× coded_digits (coded× record_map_code directory_map_code))
    (λ s. (s.hlr, (s.records, s.directory))) (λ p. record { hlr = p.0; records = p.1.0; directory = p.1.1 }) (λ _. refl)

abbrev pub imsi_entry : Subscriber → List ℕ × Subscriber
imsi_entry s = (s.imsi, s)

abbrev pub msisdn_entry : Subscriber → List ℕ × List ℕ
msisdn_entry s = (s.msisdn, s.imsi)

abbrev pub by_imsi : List Subscriber → RecordMap
by_imsi ss = map.from_entries (each imsi_entry ss)

abbrev pub by_msisdn : List Subscriber → DirectoryMap
by_msisdn ss = map.from_entries (each msisdn_entry ss)

-- What is loaded from a file with these contents.
abbrev pub loaded_from : Contents → Subscribers
loaded_from contents = record { hlr = contents.hlr; records = by_imsi contents.records; directory = by_msisdn contents.records }

abbrev pub nobody : List ℕ → Subscribers
nobody hlr = record { hlr = hlr; records = map.empty; directory = map.empty }

-- With one more record under its IMSI, and its IMSI under its MSISDN.
abbrev pub with_record : Subscribers → Subscriber → Subscribers
with_record loaded s = record { hlr = loaded.hlr; records = map.insert loaded.records s.imsi s; directory = map.insert loaded.directory s.msisdn s.imsi }
