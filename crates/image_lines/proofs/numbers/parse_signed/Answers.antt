use Rattle.std.proofs.Common.{◌≡◌, ℤ, true, false, Some, rules, sym, ap, subst, ◌∙◌}
use Rattle.std.specs.Prelude.{FitsSigned}
use Rattle.std.specs.Int.{w8}
use Rattle.std.specs.Fmt.{signed_decimal}
use Rattle.std.proofs.lemmas.Int.{to_z-of_z}
use Rattle.std.proofs.lemmas.Bool.{false≢true}
use Rattle.image_lines.specs.Reading.{is_plain_signed}
use Rattle.image_lines.proofs.SignedLemmas.{spelled_plain, spelled_utf8, spelled_parsed, parsed_spelled, ok_same}
use Rattle.image_lines.proofs.numbers.parse_signed.Goals as goal

pub returns-then-not-is_plain_signed-clause-only : goal.returns-then-not-is_plain_signed-clause-only
returns-then-not-is_plain_signed-clause-only c = λ z fits is.
    let plain : c.is_plain_signed.result ≡ true = c.is_plain_signed.ensures ∙ spelled_plain c.args.field.now z fits is in
    let not_plain : c.is_plain_signed.result ≡ false = search rules in
    absurd (false≢true (sym not_plain ∙ plain))

pub returns-in_default-clause-only : goal.returns-in_default-clause-only
returns-in_default-clause-only c = λ z fits is. absurd (c.in_default.ensures.cases.0 (spelled_utf8 c.args.field.now z fits is))

pub returns-in-Ok-parse-clause-found : goal.returns-in-Ok-parse-clause-found
returns-in-Ok-parse-clause-found c =
    let whole : c.in-Ok.digits.now ≡ c.args.field.now = search rules in
    let plain : is_plain_signed c.args.field.now ≡ true = search rules in
    let fits : FitsSigned w8 c.in-Ok-parse.number = search rules in
    subst (λ (z : ℤ). c.args.field.now ≡ signed_decimal z) (sym (to_z-of_z w8 c.in-Ok-parse.number fits))
    (parsed_spelled _ c.args.field.now c.in-Ok-parse.number c.parse.result (search rules) plain (rw whole at c.parse.ensures.value.0))

pub returns-in-Ok-parse-clause-only : goal.returns-in-Ok-parse-clause-only
returns-in-Ok-parse-clause-only c = λ z fits is.
    let whole : c.in-Ok.digits.now ≡ c.args.field.now = search rules in
    let given : FitsSigned w8 c.in-Ok-parse.number = search rules in
    let same = spelled_parsed c.args.field.now z c.parse.result fits is (rw whole at c.parse.ensures.value.0) in
    ap (λ (n : ℤ). Some n) (to_z-of_z w8 c.in-Ok-parse.number given ∙ ok_same c.parse.result c.in-Ok-parse.number z (search rules) same)

pub returns-in-Err-clause-only : goal.returns-in-Err-clause-only
returns-in-Err-clause-only c = λ z fits is.
    let whole : c.in-Ok.digits.now ≡ c.args.field.now = search rules in
    absurd (cc (spelled_parsed c.args.field.now z c.parse.result fits is (rw whole at c.parse.ensures.value.0), c.in-Err.is))
