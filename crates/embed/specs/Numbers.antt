-- The numbers of the subscribers.
use Rattle.std.specs.Prelude.{◌≡◌, ◌↔◌, ℕ, List, Some}
use Rattle.std.specs.FinMap as map
use Rattle.machine_laws.specs.Numbers.{msisdn_in}
use Rattle.wholenode.specs.Nodes.{NodeState, whole}

-- The directory has an IMSI under a number exactly if a record has this IMSI and this MSISDN.
abbrev pub AreNumbered : NodeState → Type 0
AreNumbered node = (msisdn imsi : List ℕ) → (map.get node.directory msisdn ≡ Some imsi) ↔ (msisdn_in (whole node.shards) imsi ≡ Some msisdn)
