-- A record among those loaded so far.
use Rattle.std.specs.Prelude.{Bool, ◌&&◌, not, is_some}
use Rattle.std.specs.FinMap as map
use Rattle.records.specs.Subscriber.{Subscriber}
use Rattle.records.specs.Loaded.{Subscribers}

-- Whether no record has this one's IMSI, and none its MSISDN.
abbrev pub is_new : Subscribers → Subscriber → Bool
is_new loaded s = not (is_some (map.get loaded.records s.imsi)) && not (is_some (map.get loaded.directory s.msisdn))
