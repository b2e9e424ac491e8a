use Rattle.std.proofs.Common.{◌≡◌, ◌%◌, false, length, rules, sym, ◌∙◌}
use Rattle.std.specs.Prelude.{◌==◌, codes}
use Rattle.std.specs.List.{list_all}
use Rattle.std.proofs.lemmas.Bool.{and_parts, eqb-true}
use Rattle.hex.specs.Hex.{is_hex_digit}
use Rattle.records.specs.Reading.{is_text}
use Rattle.hlr_input.proofs.DigitLaws.{digits_stand}
use Rattle.hlr_input.proofs.frame_octets.stand.Goals as goal

pub returns-then-are_digit_pairs : goal.returns-then-are_digit_pairs
returns-then-are_digit_pairs c =
    let other : is_text c.args.text.now (codes "-") ≡ false = rw c.as_slice.ensures at (sym c.eq.ensures ∙ c.if-eq.false) in
    let some : (length c.args.text.now == 0) ≡ false = search rules in
    let pairs = and_parts (length c.args.text.now % 2 == 0) (list_all is_hex_digit c.args.text.now)
    (sym c.are_digit_pairs.ensures ∙ c.if-are_digit_pairs.true) in
    rw (other, some) (c.if-are_digit_pairs.true ∙ digits_stand c.args.known c.args.text.now (eqb-true (length c.args.text.now % 2) 0 pairs.0) pairs.1)
