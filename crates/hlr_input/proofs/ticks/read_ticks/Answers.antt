use Rattle.std.proofs.Common.{◌≡◌, ◌≤◌, ◌<◌, true, false, rules, sym, ◌∙◌, arith}
use Rattle.std.proofs.lemmas.Bool.{false≢true}
use Rattle.machine.specs.declared.numbers.TheConstants.{MAX_CLOCK}
use Rattle.hlr_input.specs.Reading.{is_plain}
use Rattle.hlr_input.proofs.TickLaws.{ticks_plain, ticks_utf8, ticks_parsed, ticks_found}
use Rattle.hlr_input.proofs.ticks.read_ticks.Goals as goal

pub returns-then-not-is_plain-clause-only : goal.returns-then-not-is_plain-clause-only
returns-then-not-is_plain-clause-only c = λ n is.
    let plain : c.is_plain.result ≡ true = c.is_plain.ensures ∙ ticks_plain c.args.text.now n is in
    let not_plain : c.is_plain.result ≡ false = search rules in
    absurd (false≢true (sym not_plain ∙ plain))

pub returns-in_default-clause-only : goal.returns-in_default-clause-only
returns-in_default-clause-only c = λ n is. absurd (c.in_default.ensures.cases.0 (ticks_utf8 c.args.text.now n is))

pub returns-in_default-parse-clause-only : goal.returns-in_default-parse-clause-only
returns-in_default-parse-clause-only c = λ n is.
    let whole : c.in-Ok.digits.now ≡ c.args.text.now = search rules in
    absurd (cc (ticks_parsed c.args.text.now n c.parse.result is (rw whole at c.parse.ensures.value.0), c.in_default-parse.is))

pub returns-then-ticks-le-MAX_CLOCK-clause-found : goal.returns-then-ticks-le-MAX_CLOCK-clause-found
returns-then-ticks-le-MAX_CLOCK-clause-found c =
    let whole : c.in-Ok.digits.now ≡ c.args.text.now = search rules in
    let plain : is_plain c.args.text.now ≡ true = search rules in
    let most : c.in-Ok-parse.ticks ≤ MAX_CLOCK = search rules in
    ticks_found c.args.text.now c.in-Ok-parse.ticks c.parse.result (search rules) plain (rw whole at c.parse.ensures.value.0) most

pub returns-then-ticks-le-MAX_CLOCK-clause-only : goal.returns-then-ticks-le-MAX_CLOCK-clause-only
returns-then-ticks-le-MAX_CLOCK-clause-only c = λ n is.
    let whole : c.in-Ok.digits.now ≡ c.args.text.now = search rules in
    let same = ticks_parsed c.args.text.now n c.parse.result is (rw whole at c.parse.ensures.value.0) in
    cc

pub returns-else-ticks-le-MAX_CLOCK-clause-only : goal.returns-else-ticks-le-MAX_CLOCK-clause-only
returns-else-ticks-le-MAX_CLOCK-clause-only c = λ n is.
    let whole : c.in-Ok.digits.now ≡ c.args.text.now = search rules in
    let same = ticks_parsed c.args.text.now n c.parse.result is (rw whole at c.parse.ensures.value.0) in
    let equal : c.in-Ok-parse.ticks ≡ n = cc in
    let more : MAX_CLOCK < c.in-Ok-parse.ticks = search rules in
    absurd (omega (arith, is.most))
