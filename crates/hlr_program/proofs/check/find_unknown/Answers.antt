use Rattle.std.proofs.Common.{◌≡◌, [], ap, ◌∙◌, rules}
use Rattle.texts.specs.Lines.{lines}
use Rattle.texts.proofs.LinesLemmas.{lines_nil}
use Rattle.hlr_program.specs.Batches.{batch_of}
use Rattle.hlr_program.proofs.CheckLaws.{ends}
use Rattle.hlr_program.proofs.check.find_unknown.Goals as goal

pub returns-clause-known : goal.returns-clause-known
returns-clause-known c =
    let none : c.lines.left.rest.now ≡ [] = search rules in
    ends _ _ _ _ _ _ c.lines.invariant.completes (ap batch_of (ap lines none ∙ lines_nil))
