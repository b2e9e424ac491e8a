use Rattle.std.proofs.Common.{◌≡◌, true, false, rules, sym, ◌∙◌}
use Rattle.std.proofs.lemmas.Bool.{false≢true}
use Rattle.image_lines.specs.Reading.{is_plain}
use Rattle.image_lines.proofs.NumberLemmas.{spelled_plain, spelled_utf8, spelled_parsed, parsed_spelled}
use Rattle.image_lines.proofs.numbers.parse_decimal.Goals as goal

pub returns-then-not-is_plain-clause-only : goal.returns-then-not-is_plain-clause-only
returns-then-not-is_plain-clause-only c = λ n lt is.
    let plain : c.is_plain.result ≡ true = c.is_plain.ensures ∙ spelled_plain c.args.field.now n lt is in
    let not_plain : c.is_plain.result ≡ false = search rules in
    absurd (false≢true (sym not_plain ∙ plain))

pub returns-in_default-clause-only : goal.returns-in_default-clause-only
returns-in_default-clause-only c = λ n lt is. absurd (c.in_default.ensures.cases.0 (spelled_utf8 c.args.field.now n lt is))

pub returns-in-Ok-parse-clause-found : goal.returns-in-Ok-parse-clause-found
returns-in-Ok-parse-clause-found c =
    let whole : c.in-Ok.digits.now ≡ c.args.field.now = search rules in
    let plain : is_plain c.args.field.now ≡ true = search rules in
    (parsed_spelled c.args.field.now c.in-Ok-parse.number c.parse.result (search rules) plain (rw whole at c.parse.ensures.value.0)).0

pub returns-in-Ok-parse-clause-only : goal.returns-in-Ok-parse-clause-only
returns-in-Ok-parse-clause-only c = λ n lt is.
    let whole : c.in-Ok.digits.now ≡ c.args.field.now = search rules in
    let same = spelled_parsed c.args.field.now n c.parse.result lt is (rw whole at c.parse.ensures.value.0) in
    cc

pub returns-in-Err-clause-only : goal.returns-in-Err-clause-only
returns-in-Err-clause-only c = λ n lt is.
    let whole : c.in-Ok.digits.now ≡ c.args.field.now = search rules in
    absurd (cc (spelled_parsed c.args.field.now n c.parse.result lt is (rw whole at c.parse.ensures.value.0), c.in-Err.is))
