use Rattle.std.specs.Cmp.Lexicographic.{bytes_decides}
use Rattle.std.proofs.lemmas.Slice.Eq.{slice_eq-Decides}
use Rattle.dialogues.proofs.same.same_ids.Goals as goal

pub returns : goal.returns
returns c = slice_eq-Decides bytes_decides _ _ _ c.eq.ensures
