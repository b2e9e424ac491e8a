use Rattle.std.proofs.Common.{◌≤◌, length, map, take}
use Rattle.std.specs.Prelude.{string_bytes}
use Rattle.image_lines.specs.Lines.{Used}
use Rattle.tidalloc.specs.Resumed.{used_ids}
use Rattle.images.specs.Appended.{GoesOnWith}
use Rattle.images.proofs.write.push_used.Given as goal

-- the lines of as many used slots as were passed
abbrev pub invariant-loop-slot : goal.invariant-loop-slot
invariant-loop-slot l = (l.slot ≤ length l.ids.supply.generations) × GoesOnWith
    (map (λ id. Used id) (used_ids l.ids.shard 0 (take l.slot l.ids.supply.generations)))
    (string_bytes l.fn.text) (string_bytes l.text)
