use Rattle.std.proofs.Common.{◌≡◌, ◌<◌, length, [], rules, refl, sym, ap, ◌∙◌, arith}
use Rattle.std.specs.Prelude.{Some, None}
use Rattle.std.proofs.lemmas.Bool.{cond-true, cond-false}
use Rattle.hlr_input.specs.declared.group.Group.{Group}
use Rattle.hlr_input.specs.declared.group.Group.TheVariants.{Octet, Letter}
use Rattle.hlr_input.specs.Octets.{octets_of_group}
use Rattle.hlr_input.specs.Reading.{octets_after}
use Rattle.hlr_input.proofs.OctetLaws.{octets_bad, octets_lacking, octets_more, octets_after-end, slice_get-at, slice_get-past}
use Rattle.hlr_input.proofs.frame_octets.group_octets.Goals as goal

pub returns-in_default : goal.returns-in_default
returns-in_default c =
    let at : c.from.result ≡ c.in-Some-Letter.letter = search rules in
    let same : c.in-Some-Letter.field-0 ≡ Letter c.in-Some-Letter.letter = search rules in
    let none : octets_of_group c.args.ids.now (Letter c.in-Some-Letter.letter)
    ≡ None = slice_get-past c.args.ids.now c.in-Some-Letter.letter (omega (arith, c.in_default.ensures.lookup.3)) in
    octets_lacking c.args.ids.now c.groups.octets.items c.groups.rest.now c.split_at.result.0.now (Letter c.in-Some-Letter.letter)
    (octets_after c.args.ids.now [] c.args.text.now) (search rules)
    c.split_at.ensures.front (ap (λ (g : Group). Some g) (sym same) ∙ c.in-Some-Letter.ensures) none c.groups.invariant

pub returns-in-None : goal.returns-in-None
returns-in-None c =
    octets_bad c.args.ids.now c.groups.octets.items c.groups.rest.now c.split_at.result.0.now (octets_after c.args.ids.now [] c.args.text.now)
    (search rules) c.split_at.ensures.front c.in-None.ensures
    c.groups.invariant

pub groups-preserved-in_ok-push-in-Some-Octet : goal.groups-preserved-in_ok-push-in-Some-Octet
groups-preserved-in_ok-push-in-Some-Octet c =
    let same : c.in-Some-Octet.field-0 ≡ Octet c.in-Some-Octet.octet = search rules in
    rw c.in_ok-push-in-Some-Octet.ensures.items
    (octets_more c.args.ids.now c.groups.octets.items c.groups.rest.now c.split_at.result.0.now c.split_at.result.1.now _ (Octet c.in-Some-Octet.octet)
    (octets_after c.args.ids.now [] c.args.text.now) (search rules)
    c.split_at.ensures.front c.split_at.ensures.back (ap (λ (g : Group). Some g) (sym same) ∙ c.in-Some-Octet.ensures) refl c.groups.invariant)

pub groups-preserved : goal.groups-preserved
groups-preserved c =
    let at : c.from.result ≡ c.in-Some-Letter.letter = search rules in
    let same : c.in-Some-Letter.field-0 ≡ Letter c.in-Some-Letter.letter = search rules in
    let some : octets_of_group c.args.ids.now (Letter c.in-Some-Letter.letter)
    ≡ Some c.as_slice.result.now = rw (c.as_slice.ensures.value, ← at)
    (slice_get-at c.args.ids.now c.from.result c.in-Some.id.now c.in-Some.ensures.lookup.3.0 c.in-Some.ensures.lookup.1) in
    rw c.in_ok-extend_from_slice-in-Some-Letter.ensures.items
    (octets_more c.args.ids.now c.groups.octets.items c.groups.rest.now c.split_at.result.0.now c.split_at.result.1.now c.as_slice.result.now
    (Letter c.in-Some-Letter.letter)
    (octets_after c.args.ids.now [] c.args.text.now) (search rules) c.split_at.ensures.front c.split_at.ensures.back (ap (λ (g : Group). Some g) (sym same)
    ∙ c.in-Some-Letter.ensures) some c.groups.invariant)

pub returns-then-is_empty : goal.returns-then-is_empty
returns-then-is_empty c =
    let short : length c.groups.rest.now < 2 = search rules in
    sym (cond-true _ _ _ (sym c.is_empty.ensures ∙ c.if-is_empty.true)) ∙ sym (octets_after-end c.args.ids.now c.groups.octets.items c.groups.rest.now short)
    ∙ c.groups.invariant

pub returns-else-is_empty : goal.returns-else-is_empty
returns-else-is_empty c =
    let short : length c.groups.rest.now < 2 = search rules in
    sym (cond-false _ _ _ (sym c.is_empty.ensures ∙ c.if-is_empty.false)) ∙ sym (octets_after-end c.args.ids.now c.groups.octets.items c.groups.rest.now short)
    ∙ c.groups.invariant
