use Rattle.std.proofs.Common.{◌≡◌, [], length, ap, sym, ◌∙◌, rules, arith}
use Rattle.texts.specs.Lines.{lines}
use Rattle.texts.proofs.LinesLemmas.{lines_nil}
use Rattle.std.specs.Prelude.{option_map}
use Rattle.hlr_input.specs.Octets.{ids_in}
use Rattle.hlr_program.specs.Batches.{batch_of, behind_batch}
use Rattle.hlr_program.specs.Gathering.{LinesStop, progress}
use Rattle.hlr_program.proofs.CheckLaws.{batch_ends, batch_goes_on, behind_goes_on}
use Rattle.hlr_program.proofs.GatherLemmas.{adding_ends, adding_goes_on, adding_stops, passed_on}
use Rattle.hlr_program.proofs.batch.take_lines.Goals as goal

pub returns-then-is_end-clause-adds : goal.returns-then-is_end-clause-adds
returns-then-is_end-clause-adds g c =
    adding_ends (ids_in (option_map (λ i. i.now) c.args.ids)) (progress c.args.register.now c.args.answers.now) (batch_of (lines c.args.from.rest.now)) (progress c.lines.register c.lines.answers)
    (batch_of (lines c.lines.left.rest.now))
    c.lines.invariant.goes_on (batch_ends _ _ _ c.in-Some.ensures.line (sym c.is_end.ensures ∙ c.if-is_end.true))

pub returns-in_err-take_line-clause-stops : goal.returns-in_err-take_line-clause-stops
returns-in_err-take_line-clause-stops g c =
    let next = batch_goes_on _ _ _ c.in-Some.ensures.line (sym c.is_end.ensures ∙ c.if-is_end.false) in
    passed_on c.from_residual.result c.in_err-take_line.field-0.0
    (LinesStop (ids_in (option_map (λ i. i.now) c.args.ids)) (progress c.args.register.now c.args.answers.now) (batch_of (lines c.args.from.rest.now)))
    c.from_residual.ensures.1
    (adding_stops (ids_in (option_map (λ i. i.now) c.args.ids)) (progress c.args.register.now c.args.answers.now) (batch_of (lines c.args.from.rest.now))
    (progress c.lines.register c.lines.answers)
    (batch_of (lines c.lines.left.rest.now)) c.in-Some.line.text.now
    (batch_of (lines c.in-Some.behind.rest.now)) c.in_err-take_line.field-0.0 c.lines.invariant.goes_on next c.in_err-take_line.ensures.stops)

pub lines-preserved : goal.lines-preserved
lines-preserved g c =
    let next = batch_goes_on _ _ _ c.in-Some.ensures.line (sym c.is_end.ensures ∙ c.if-is_end.false) in record {
      shorter = search rules;
      behind = sym (behind_goes_on _ _ _ c.in-Some.ensures.line (sym c.is_end.ensures ∙ c.if-is_end.false)) ∙ c.lines.invariant.behind;
      number = omega (arith, c.in-Some.ensures.before, ap length next, c.lines.invariant.number);
      goes_on = adding_goes_on (ids_in (option_map (λ i. i.now) c.args.ids)) (progress c.args.register.now c.args.answers.now) (batch_of (lines c.args.from.rest.now))
          (progress c.lines.register c.lines.answers)
          (progress c.take_line.new.register c.take_line.new.answers) (batch_of (lines c.lines.left.rest.now)) c.in-Some.line.text.now
          (batch_of (lines c.in-Some.behind.rest.now)) c.lines.invariant.goes_on
          next c.in_ok-take_line.ensures.adds;
    }

pub returns-clause-adds : goal.returns-clause-adds
returns-clause-adds g c =
    let none : c.lines.left.rest.now ≡ [] = search rules in
    adding_ends (ids_in (option_map (λ i. i.now) c.args.ids)) (progress c.args.register.now c.args.answers.now) (batch_of (lines c.args.from.rest.now)) (progress c.lines.register c.lines.answers)
    (batch_of (lines c.lines.left.rest.now))
    c.lines.invariant.goes_on (ap batch_of (ap lines none ∙ lines_nil))

pub returns-clause-behind : goal.returns-clause-behind
returns-clause-behind g c =
    let none : c.lines.left.rest.now ≡ [] = search rules in
    let empty : lines c.lines.left.rest.now ≡ [] = ap lines none ∙ lines_nil in
    record {
      lines_are = empty ∙ sym (ap behind_batch empty) ∙ c.lines.invariant.behind;
      shorter = λ some. omega (arith, ap length none, some);
      number = λ some. absurd (omega (arith, ap length none, some));
    }
