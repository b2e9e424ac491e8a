-- The records file that is saved of shards.
use Rattle.std.specs.Prelude.{◌≡◌, ℕ, List, [], ◌∷◌}
use Rattle.records.specs.File.{AreApart, File}
use Rattle.records.specs.Maps.{digits_cmp}
use Rattle.records.specs.Subscriber.{Subscriber}
use Rattle.records.specs.Written.{saved_contents, saved_file}
use Rattle.shardlog.specs.Log.{Log}
use Rattle.audit.specs.Listing.{imsi_of, records_in}
use Rattle.audit.specs.Orders.{InOrder}

-- The file of version 2 with the records of the shards, by IMSI, and this HLR number. If no two of the records share an IMSI or
-- an MSISDN, it is read again as the records without their current updates.
pub record SavesUnder (hlr : List ℕ) (shards : List Log) (written : List ℕ) : Type 0 where
  pub records : List Subscriber
  pub ordered : InOrder imsi_of digits_cmp (records_in shards) records
  pub file : written ≡ saved_file hlr records
  pub again : AreApart (records_in shards) → File written (saved_contents hlr records)

-- With the HLR number of the first shard; without shards the empty text.
abbrev pub Saves : List Log → List ℕ → Type 0
Saves [] written = written ≡ []
Saves (l ∷ ls) written = SavesUnder l.state.hlr (l ∷ ls) written

-- What is saved of one or more shards whose records share no IMSI and no MSISDN is a records file with their records, by IMSI
-- and without their current updates, and the first shard's HLR number.
abbrev pub SavedRegisterIsRead : Type 0
SavedRegisterIsRead =
    (l : Log) (ls : List Log) (written : List ℕ) → Saves (l ∷ ls) written → AreApart (records_in (l ∷ ls))
    → (records : List Subscriber) × InOrder imsi_of digits_cmp (records_in (l ∷ ls)) records × File written
    (saved_contents l.state.hlr records)
