use Rattle.std.proofs.Common.{map}
use Rattle.std.specs.Prelude.{string_bytes}
use Rattle.image_lines.specs.Lines.{Freed}
use Rattle.tidalloc.specs.Resumed.{freed_ids}
use Rattle.images.specs.Appended.{GoesOnWith}
use Rattle.images.proofs.WriteLemmas.{passed}
use Rattle.images.proofs.write.push_freed.Given as goal

abbrev pub invariant-loop-slot : goal.invariant-loop-slot
invariant-loop-slot l = GoesOnWith (map (λ id. Freed id) (freed_ids l.ids.shard (passed l.slot-index l.ids.supply)))
    (string_bytes l.fn.text) (string_bytes l.text)
