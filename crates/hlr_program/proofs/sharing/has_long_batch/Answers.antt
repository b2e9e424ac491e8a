use Rattle.std.proofs.Common.{◌≡◌, [], ap, sym, ◌∙◌, rules}
use Rattle.texts.specs.Lines.{lines}
use Rattle.texts.proofs.LinesLemmas.{lines_nil}
use Rattle.hlr_program.proofs.SharingLemmas.{sought_in_vain}
use Rattle.hlr_program.proofs.sharing.has_long_batch.Goals as goal

pub returns : goal.returns
returns c =
    let none : c.lines.left.rest.now ≡ [] = search rules in
    sym (sought_in_vain (lines c.args.script.now) (lines c.lines.left.rest.now) c.lines.count c.lines.invariant.sought c.lines.invariant.few
    (ap lines none ∙ lines_nil))
