use Rattle.std.proofs.Common.{◌≡◌, rules, sym, ap, ◌∙◌}
use Rattle.std.specs.Prelude.{Some, None}
use Rattle.embed.proofs.ChangeLemmas.{none_only, same_change}
use Rattle.embed.proofs.events.codes_event.Goals as goal

pub returns-in_default-read-clause-only : goal.returns-in_default-read-clause-only
returns-in_default-read-clause-only c = λ raw is.
    let none : c.read.result ≡ None = search rules in
    none_only c.read.result is.1 raw none (c.read.ensures.only is.1 is.3)

pub returns-clause-only : goal.returns-clause-only
returns-clause-only c = λ raw is.
    let imsi : c.read_imsi.result ≡ Some c.in-Some.imsi = search rules in
    let codes : c.read.result ≡ Some c.in_ok-new.field-0.value = c.in-Some-read.is ∙ ap (λ list. Some list) (sym c.in_ok-new.ensures.ok) in
    same_change c.read_imsi.result c.read.result c.in-Some.imsi is.0 c.in_ok-new.field-0.value is.1 raw imsi
    (c.read_imsi.ensures.only is.0 is.2) codes (c.read.ensures.only is.1 is.3) is.4
