use Rattle.std.proofs.Common.{◌≡◌, ◌%◌, false, length, rules, sym, ◌∙◌}
use Rattle.std.specs.Prelude.{◌==◌, codes, is_some, option_map}
use Rattle.std.specs.List.{list_all}
use Rattle.std.proofs.lemmas.Bool.{and_parts, eqb-true}
use Rattle.hex.specs.Hex.{is_hex_digit}
use Rattle.records.specs.Reading.{is_text}
use Rattle.hlr_input.specs.Octets.{ids_in}
use Rattle.hlr_input.proofs.DigitLaws.{digits_read}
use Rattle.hlr_input.proofs.OctetLaws.{octets_plain}
use Rattle.hlr_input.proofs.frame_octets.octets_with.Goals as goal
use Rattle.hlr_input.proofs.frame_octets.octets_with.Goals.{in_default-via-in-Some+else-not-are_digit_pairs, in_default-via-in_default}

pub digit_octets-requires-clause-even : goal.digit_octets-requires-clause-even
digit_octets-requires-clause-even c =
    let other : is_text c.args.text.now (codes "-") ≡ false = rw c.as_slice.ensures at (sym c.eq.ensures ∙ c.if-eq.false) in
    elim c.in_default.branch [
      | in_default-via-in-Some+else-not-are_digit_pairs w ↦
          let all = sym w.are_digit_pairs.ensures ∙ w.if-not-are_digit_pairs.false in
          eqb-true (length c.args.text.now % 2) 0 (and_parts (length c.args.text.now % 2 == 0) (list_all is_hex_digit c.args.text.now) all).0
      | in_default-via-in_default w ↦
          let none : is_some c.args.ids ≡ false = search rules in
          let p = c.requires.plain none in
          (octets_plain c.args.text.now p.0 p.1 p.2 p.3 other).0
    ]

pub digit_octets-requires-clause-all : goal.digit_octets-requires-clause-all
digit_octets-requires-clause-all c =
    let other : is_text c.args.text.now (codes "-") ≡ false = rw c.as_slice.ensures at (sym c.eq.ensures ∙ c.if-eq.false) in
    elim c.in_default.branch [
      | in_default-via-in-Some+else-not-are_digit_pairs w ↦
          let all = sym w.are_digit_pairs.ensures ∙ w.if-not-are_digit_pairs.false in
          (and_parts (length c.args.text.now % 2 == 0) (list_all is_hex_digit c.args.text.now) all).1
      | in_default-via-in_default w ↦
          let none : is_some c.args.ids ≡ false = search rules in
          let p = c.requires.plain none in
          (octets_plain c.args.text.now p.0 p.1 p.2 p.3 other).1
    ]

pub returns-in_ok-octets-in_default-clause-read : goal.returns-in_ok-octets-in_default-clause-read
returns-in_ok-octets-in_default-clause-read c =
    let other : is_text c.args.text.now (codes "-") ≡ false = rw c.as_slice.ensures at (sym c.eq.ensures ∙ c.if-eq.false) in
    let some : (length c.args.text.now == 0) ≡ false = search rules in
    rw (other, some) (digits_read c.args.text.now c.in_ok-octets-in_default.octets.items c.in_ok-octets-in_default.ensures.read
    (ids_in (option_map (λ i. i.now) c.args.ids)))
