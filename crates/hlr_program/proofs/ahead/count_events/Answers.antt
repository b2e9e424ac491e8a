use Rattle.std.proofs.Common.{◌≡◌, [], ap, sym, ◌∙◌, rules, arith}
use Rattle.texts.specs.Lines.{lines}
use Rattle.texts.proofs.LinesLemmas.{lines_nil}
use Rattle.hlr_program.specs.Batches.{batch_of}
use Rattle.hlr_program.proofs.AheadLemmas.{counts_end, counts_go_on}
use Rattle.hlr_program.proofs.CheckLaws.{batch_ends, batch_goes_on}
use Rattle.hlr_program.proofs.ahead.count_events.Goals as goal

pub returns-then-is_end : goal.returns-then-is_end
returns-then-is_end c = λ ids events are small.
    counts_end ids (batch_of (lines c.args.from.rest.now)) (batch_of (lines c.lines.left.rest.now)) c.lines.count events (c.lines.invariant ids)
    (batch_ends _ _ _ c.in-Some.ensures.line (sym c.is_end.ensures ∙ c.if-is_end.true)) are small

pub lines-preserved : goal.lines-preserved
lines-preserved c = λ ids.
    counts_go_on ids (batch_of (lines c.args.from.rest.now)) (batch_of (lines c.lines.left.rest.now)) c.lines.count c.in-Some.line.text.now
    (batch_of (lines c.in-Some.behind.rest.now)) c.count_in.result c.saturating_add-count.result (c.lines.invariant ids)
    (batch_goes_on _ _ _ c.in-Some.ensures.line (sym c.is_end.ensures ∙ c.if-is_end.false)) (λ events are. c.count_in.ensures ids events are)
    (λ small. omega (arith, small, c.saturating_add-count.ensures))

pub returns : goal.returns
returns c = λ ids events are small.
    let none : c.lines.left.rest.now ≡ [] = search rules in
    counts_end ids (batch_of (lines c.args.from.rest.now)) (batch_of (lines c.lines.left.rest.now)) c.lines.count events (c.lines.invariant ids)
    (ap batch_of (ap lines none ∙ lines_nil)) are small
