use Rattle.std.proofs.Common.{take}
use Rattle.std.specs.FinMap as finite
use Rattle.std.specs.List.{flat_map}
use Rattle.std.specs.Prelude.{string_bytes}
use Rattle.images.specs.Appended.{GoesOnWith}
use Rattle.images.specs.Written.{opened_lines}
use Rattle.images.proofs.write.push_dialogues.Given as goal

abbrev pub invariant-loop-id : goal.invariant-loop-id
invariant-loop-id l = GoesOnWith (flat_map (opened_lines l.records) (take l.id-index (finite.entries l.dialogues.open_ones)))
    (string_bytes l.fn.text) (string_bytes l.text)
