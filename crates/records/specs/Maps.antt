-- Records by IMSI, and the directory, as finite maps. Digits are texts, and their order is that of texts.
use Rattle.std.specs.Prelude.{◌≡◌, ℕ, ◌+◌, ◌-◌, ◌*◌, ◌%◌, ◌==◌, List, length, slice_index, Some}
use Rattle.std.specs.declared.cmp.Ordering.{Ordering}
use Rattle.std.specs.Ordering.{nat_cmp}
use Rattle.std.specs.Cmp.Lexicographic.{slice_cmp}
use Rattle.std.specs.FinMap as map
use Rattle.std.specs.Coded.{Coded}
use Rattle.records.specs.Subscriber.{Subscriber, subscriber_code, coded_digits}

-- A text comes before every longer one that begins with it, and `12` before `2`.
abbrev pub digits_cmp : List ℕ → List ℕ → Ordering
digits_cmp = slice_cmp nat_cmp

abbrev pub RecordMap : Type 0
RecordMap = map.FinMap digits_cmp Subscriber

abbrev pub record_map_code : Coded RecordMap
record_map_code = map.code coded_digits subscriber_code

-- IMSIs by MSISDN.
abbrev pub DirectoryMap : Type 0
DirectoryMap = map.FinMap digits_cmp (List ℕ)

abbrev pub directory_map_code : Coded DirectoryMap
directory_map_code = map.code coded_digits coded_digits

-- Each record is under its own IMSI.
abbrev pub AreByImsi : RecordMap → Type 0
AreByImsi records = (imsi : List ℕ) (s : Subscriber) → map.get records imsi ≡ Some s → s.imsi ≡ imsi

-- The shard of a subscriber: the number made of the last two digits of the IMSI, modulo 16 (profile).
unfoldable pub shard_of : List ℕ → ℕ
shard_of imsi = (10 * slice_index imsi (length imsi - 2) + slice_index imsi (length imsi - 1)) % 16

-- The records of a shard.
abbrev pub part_of : RecordMap → ℕ → RecordMap
part_of records shard = map.retain_keys records (λ imsi. shard_of imsi == shard)
