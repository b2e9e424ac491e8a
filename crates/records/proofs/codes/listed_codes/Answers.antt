use Rattle.std.proofs.Common.{◌≡◌, [], length, sym, ap, ◌∙◌, true, false, rules}
use Rattle.std.specs.Prelude.{Some, option_map, ◌==◌, nat_lt}
use Rattle.std.specs.List.{list_any}
use Rattle.texts.specs.Lines.{parts}
use Rattle.texts.specs.Lines.{parts_left}
use Rattle.records.specs.Reading.{codes_after, octet_in}
use Rattle.records.proofs.CodeLemmas.{codes_after-repeated, codes_after-next}
use Rattle.records.proofs.codes.listed_codes.Goals as goal

pub returns-then-is_among : goal.returns-then-is_among
returns-then-is_among c =
    let is : octet_in c.cut.result.0.now ≡ Some c.in-Some-octet.code = search rules in
    let has : list_any (λ x. x == c.in-Some-octet.code) c.loop-rest.codes
    ≡ true = rw (← c.as_slice.ensures.value) (sym c.is_among.ensures ∙ c.if-is_among.true) in
    codes_after-repeated c.loop-rest.codes c.cut.result.0.now (parts_left 44 (option_map (λ r. r.now) c.cut.result.1)) c.in-Some-octet.code
    (codes_after [] (parts 44 c.args.field.now)) is has
    (ap (codes_after c.loop-rest.codes) (sym c.cut.ensures.parts) ∙ rw c.in-Some.is at c.loop-rest.invariant)

pub loop-rest-preserved : goal.loop-rest-preserved
loop-rest-preserved c =
    let is : octet_in c.cut.result.0.now ≡ Some c.in-Some-octet.code = search rules in
    let fresh : list_any (λ x. x == c.in-Some-octet.code) c.loop-rest.codes
    ≡ false = rw (← c.as_slice.ensures.value) (sym c.is_among.ensures ∙ c.if-is_among.false) in
    let room : nat_lt (length c.loop-rest.codes) 32 ≡ true = search rules in
    rw c.push.ensures
    (codes_after-next c.loop-rest.codes c.cut.result.0.now (parts_left 44 (option_map (λ r. r.now) c.cut.result.1)) c.in-Some-octet.code
    (codes_after [] (parts 44 c.args.field.now)) is fresh room
    (ap (codes_after c.loop-rest.codes) (sym c.cut.ensures.parts) ∙ rw c.in-Some.is at c.loop-rest.invariant))
