use Rattle.std.proofs.Common.{arith, ◌∙◌, ◌+◌}
use Rattle.std.proofs.lemmas.List.{take_rest}
use Rattle.std.proofs.lemmas.Grind.{common_steps}
use Rattle.hlr_types.proofs.FrontLemmas.{front_word, front_found, stand_at}
use Rattle.hlr_types.proofs.digits.Digits.from_front.Goals as goal

pub returns-then-count-eq0-clause-only : goal.returns-then-count-eq0-clause-only
returns-then-count-eq0-clause-only c = λ other ds rest some are.
    let front = c.leading_number-number.ensures in
    let at = stand_at c.args.text.now ds rest c.args.end c.leading_number-number.result.1 other some are front.digits front.last in
    grind (arith, common_steps, at.count_is, at.within, at.end_is, some.some)

pub of_word-requires : goal.of_word-requires
of_word-requires c =
    let front = c.leading_number-number.ensures in
    (front_word c.leading_number-number.result.0 c.leading_number-number.result.1 c.args.text.now (omega (arith, c.if-count-eq0.false)) front.within front.most
    front.digits front.number).word

pub returns-clause-found : goal.returns-clause-found
returns-clause-found c =
    let front = c.leading_number-number.ensures in
    let is = front_word c.leading_number-number.result.0 c.leading_number-number.result.1 c.args.text.now (omega (arith, c.if-count-eq0.false)) front.within
    front.most front.digits front.number in
    rw (c.of_word.ensures, is.value, take_rest c.args.text.now (c.leading_number-number.result.1 + 1)) (
      is.some,
      front_found c.args.text.now c.args.end c.leading_number-number.result.1 c.if-text-count.false front.digits c.if-text-count-2.false,
    )

pub returns-clause-only : goal.returns-clause-only
returns-clause-only c = λ other ds rest some are.
    let front = c.leading_number-number.ensures in
    let is = front_word c.leading_number-number.result.0 c.leading_number-number.result.1 c.args.text.now (omega (arith, c.if-count-eq0.false)) front.within
    front.most front.digits front.number in
    let at = stand_at c.args.text.now ds rest c.args.end c.leading_number-number.result.1 other some are front.digits front.last in
    rw (take_rest c.args.text.now (c.leading_number-number.result.1 + 1)) (c.of_word.ensures ∙ is.value ∙ at.front_is, at.back_is)
