use Rattle.std.specs.Prelude.{◌≡◌, ℕ, true, false, List, Some, None}
use Rattle.std.specs.FinMap as map
use Rattle.records.specs.Subscriber.{Subscriber}
use Rattle.records.specs.Maps.{RecordMap}

-- A record as read from a file: no update is in progress, without a register it is not purged, and if withdrawn it has none.
pub record IsFresh (s : Subscriber) : Type 0 where
  pub unmarked : s.current ≡ None
  pub purged : s.register ≡ None → s.purged ≡ false
  pub withdrawn : s.withdrawn ≡ true → s.register ≡ None

-- each record is
abbrev pub AreFresh : RecordMap → Type 0
AreFresh records = (imsi : List ℕ) (s : Subscriber) → map.get records imsi ≡ Some s → IsFresh s
