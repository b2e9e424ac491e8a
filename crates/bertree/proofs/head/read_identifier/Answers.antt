use Rattle.std.proofs.Common.{◌+◌, ◌*◌, sym, ◌∙◌, arith}
use Rattle.x690.specs.Identifier.{class_bits, constructed_bit}
use Rattle.x690.specs.declared.Tag.{Tag}
use Rattle.x690.proofs.Identifiers.{identifier-not-empty}
use Rattle.bertree.proofs.Heads.{not-identifier-zero, not-identifier-number, not-number-small, small-found, large-found}
use Rattle.bertree.proofs.head.read_identifier.Goals as goal

pub returns-in_err-first-clause-none : goal.returns-in_err-first-clause-none
returns-in_err-first-clause-none c =
    rw c.from_residual.ensures (λ k tag rest h e. identifier-not-empty tag rest (sym e ∙ c.in_err-first.ensures.none))

pub returns-then-first-eq0-clause-none : goal.returns-then-first-eq0-clause-none
returns-then-first-eq0-clause-none c =
    λ k tag rest h e. not-identifier-zero k tag _ _ rest c.if-first-eq0.true h (sym c.in_ok-first.ensures.some ∙ e)

pub returns-then-low-lt31-clause-found : goal.returns-then-low-lt31-clause-found
returns-then-low-lt31-clause-found c =
    let l = c.leading_of-class in
    let tag : Tag = record { class = l.result.0; constructed = l.result.1; number = c.from-number.result } in
    small-found tag _ _ _ c.in_ok-first.ensures.some (omega arith) (omega arith) (omega arith)

pub returns-in_err-number-clause-none : goal.returns-in_err-number-clause-none
returns-in_err-number-clause-none c =
    let l = c.leading_of-class in
    rw c.from_residual-in_err-number.ensures (λ k tag rest h e.
    not-identifier-number k tag c.in_ok-first.first (2 * class_bits l.result.0 + constructed_bit l.result.1) _ rest (omega arith)
    (λ n ge lt f. c.in_err-number.ensures.none n rest lt f) h (sym c.in_ok-first.ensures.some ∙ e))

pub returns-then-number-lt-LEAST_LONG_NUMBER-clause-none : goal.returns-then-number-lt-LEAST_LONG_NUMBER-clause-none
returns-then-number-lt-LEAST_LONG_NUMBER-clause-none c =
    let l = c.leading_of-class in
    λ k tag rest h e.
    not-identifier-number k tag c.in_ok-first.first (2 * class_bits l.result.0 + constructed_bit l.result.1) _ rest (omega arith)
    (λ n ge lt f. not-number-small _ n _ _ rest c.if-number-lt-LEAST_LONG_NUMBER.true c.in_ok-number.ensures.found.1 ge lt f) h
    (sym c.in_ok-first.ensures.some ∙ e)

pub returns-clause-found : goal.returns-clause-found
returns-clause-found c =
    let l = c.leading_of-class in
    let tag : Tag = record { class = l.result.0; constructed = l.result.1; number = c.in_ok-number.number } in
    large-found tag _ _ _ _ c.in_ok-first.ensures.some c.if-number-lt-LEAST_LONG_NUMBER.false (omega arith) c.in_ok-number.ensures.found
