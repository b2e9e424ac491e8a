use Rattle.std.proofs.Common.{◌≡◌, [], sym, ap, ◌∙◌, arith}
use Rattle.std.proofs.lemmas.List.{nil_from_length}
use Rattle.std.proofs.lemmas.Grind.{common_steps}
use Rattle.texts.specs.Lines.{lines}
use Rattle.texts.proofs.LinesLemmas.{lines_nil}
use Rattle.records.proofs.FaultlessLemmas.{one_read, all_read}
use Rattle.records.proofs.load.read_each.Goals as goal

pub loop-rest-preserved : goal.loop-rest-preserved
loop-rest-preserved c =
    one_read _ _ _ _ _ _ _ _ c.loop-rest.invariant c.first_line.ensures.lines (sym c.in_ok-subscriber.ensures ∙ c.in-Some.is) c.in_ok-push.ensures.items

pub returns : goal.returns
returns c =
    let none : c.loop-rest.rest.now ≡ [] = nil_from_length c.loop-rest.rest.now (grind (arith, common_steps)) in
    all_read _ _ _ _ c.loop-rest.invariant (ap lines none ∙ lines_nil)
