use Rattle.std.proofs.Common.{◌≡◌, take, drop}
use Rattle.std.specs.FinSet as set
use Rattle.tidalloc.specs.Resumed.{untaken_all}
use Rattle.tidalloc.proofs.ids.Ids.set_back.Given as goal

abbrev pub invariant-loop-place : goal.invariant-loop-place
invariant-loop-place l =
    l.self ≡ record l.fn.self { live = set.from_list (take l.place l.ids.items); supply = untaken_all l.fn.self.supply (drop l.place l.ids.items) }
