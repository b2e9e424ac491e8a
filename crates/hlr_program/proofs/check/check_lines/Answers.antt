use Rattle.std.proofs.Common.{◌≡◌, ◌+◌, Bool, List, [], ℕ, ap, arith, length, subst, sym, ◌∙◌, rules}
use Rattle.std.specs.Prelude.{Some}
use Rattle.std.specs.List.{AllByRecursion}
use Rattle.texts.specs.Lines.{lines}
use Rattle.texts.proofs.LinesLemmas.{lines_nil}
use Rattle.hlr_program.specs.Batches.{HasIds, IsGood, IsBad}
use Rattle.hlr_program.proofs.CheckLaws.{Completes, begins, ends, goes_on, lettered_goes_on}
use Rattle.hlr_program.proofs.check.check_lines.Goals as goal

pub lines-init : goal.lines-init
lines-init c =
    let whole = lines c.args.text.now in
    let here : lines c.new-left.result.rest.now ≡ whole = ap lines c.new-left.ensures.whole in
    let first = c.new-left.ensures.first in
    let long : length (lines c.new-left.result.rest.now) ≡ length whole = ap length here in
    let same : length c.new-left.result.rest.now ≡ length c.args.text.now = ap length c.new-left.ensures.whole in
    record {
      good = subst (λ (ls : List (List ℕ)). Completes IsGood IsBad whole 0 ls c.new-left.result.before) (sym here)
          (subst (λ (n : ℕ). Completes IsGood IsBad whole 0 whole n) (sym first) (begins IsGood IsBad whole 0));
      plain = λ none plain. subst (AllByRecursion (HasIds 0)) here plain;
      count = omega (arith, first, long);
      within = omega (arith, first, same);
    }

pub lines-preserved : goal.lines-preserved
lines-preserved c =
    let whole = lines c.args.text.now in
    let here = lines c.lines.left.rest.now in
    let behind = lines c.in-Some.behind.rest.now in
    let one_less : length here ≡ length behind + 1 = ap length c.in-Some.ensures.line ∙ omega arith in
    let before = c.in-Some.ensures.before in
    let shorter = c.in-Some.ensures.shorter in
    let count = c.lines.invariant.count in
    let within = c.lines.invariant.within in
    record {
      good = goes_on IsGood IsBad whole 0 here c.lines.left.before c.in-Some.line.text.now behind c.in-Some.behind.before
          c.lines.invariant.good c.in-Some.ensures.line before c.in-Some-find_letters.ensures.good;
      plain = lettered_goes_on whole c.lines.lettered c.in-Some-find_letters.has_letter here c.in-Some.line.text.now behind c.lines.invariant.plain
          c.in-Some.ensures.line c.if-lettered.false
          (λ none. c.find_letters.ensures.plain (c.in-Some-find_letters.is ∙ ap (λ (has : Bool). Some has) none));
      count = omega (arith, one_less, before, count);
      within = omega (arith, before, shorter, within);
    }

pub returns-clause-seen : goal.returns-clause-seen
returns-clause-seen c =
    let none : c.lines.left.rest.now ≡ [] = search rules in
    let nothing : lines c.lines.left.rest.now ≡ [] = ap lines none ∙ lines_nil in
    let all : length (lines c.lines.left.rest.now) ≡ 0 = ap length nothing in
    let count = c.lines.invariant.count in
    let within = c.lines.invariant.within in
    record {
      forms = record {
        good = ends IsGood IsBad (lines c.args.text.now) 0 (lines c.lines.left.rest.now) c.lines.left.before c.lines.invariant.good nothing;
        plain = λ plain. c.lines.invariant.plain plain (subst (AllByRecursion (HasIds 0)) (sym nothing) tt);
      };
      count = omega (arith, count, all);
      within = omega (arith, within);
    }
