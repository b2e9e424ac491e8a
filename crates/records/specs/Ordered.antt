-- What is kept in order, so that it is found by halves.
use Rattle.std.specs.Prelude.{◌≡◌, ℕ, ◌<◌, List, length, map as each, slice_index_or, IsSome, is_some}
use Rattle.std.specs.List.{IsDistinct, list_any}
use Rattle.std.specs.List.Sorted.{IsStrictlySortedBy}
use Rattle.std.specs.declared.cmp.Ordering.TheVariants.{Less}
use Rattle.std.specs.Ordering.{eq_by_cmp}
use Rattle.std.specs.Map.{keys_of}
use Rattle.std.specs.FinMap as map
use Rattle.records.specs.Subscriber.{Subscriber}
use Rattle.records.specs.Maps.{digits_cmp, RecordMap}
use Rattle.records.specs.Loaded.{imsi_entry, by_imsi}

-- The keys ascend, and none stands twice.
abbrev pub AreOrderedBy : {Y : Type 0} → (Y → List ℕ) → List Y → Type 0
AreOrderedBy key ys = IsStrictlySortedBy digits_cmp (each key ys)

-- No key stands twice.
abbrev pub AreDistinct : {X : Type 0} → List (List ℕ × X) → Type 0
AreDistinct es = IsDistinct (eq_by_cmp digits_cmp) (keys_of es)

-- Records in the order of their IMSIs.
abbrev pub AreInOrder : List Subscriber → Type 0
AreInOrder ss = AreOrderedBy (λ (s : Subscriber). s.imsi) ss

-- The record with this IMSI is at this place.
pub record IsPlaceOf (ss : List Subscriber) (imsi : List ℕ) (at : ℕ) : Type 0 where
  pub inside : at < length ss
  pub own : (d : Subscriber) → (slice_index_or ss at d).imsi ≡ imsi

-- The IMSI comes after all others.
abbrev pub IsAbove : RecordMap → List ℕ → Type 0
IsAbove records imsi = (other : List ℕ) → IsSome (map.get records other) → digits_cmp other imsi ≡ Less

-- No IMSI stands twice, and those of the records are these.
pub record AreApartAs (imsis : List (List ℕ)) (ss : List Subscriber) : Type 0 where
  pub apart : AreDistinct (each imsi_entry ss)
  pub known : (imsi : List ℕ) → list_any (eq_by_cmp digits_cmp imsi) imsis ≡ is_some (map.get (by_imsi ss) imsi)
