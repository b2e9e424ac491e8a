use Rattle.std.proofs.Common.{◌≡◌, [], ap, ◌∙◌, arith}
use Rattle.std.proofs.lemmas.List.{nil_from_length}
use Rattle.std.proofs.lemmas.Grind.{common_steps}
use Rattle.texts.specs.Lines.{lines}
use Rattle.records.specs.Reading.{contents_of}
use Rattle.texts.proofs.LinesLemmas.{lines_nil}
use Rattle.records.proofs.load.load.Goals as goal

pub returns-then-text-eq0 : goal.returns-then-text-eq0
unfolding contents_of
returns-then-text-eq0 c =
    let none : c.args.text.now ≡ [] = nil_from_length c.args.text.now (grind (arith, common_steps)) in
    ap contents_of (ap lines none ∙ lines_nil)
