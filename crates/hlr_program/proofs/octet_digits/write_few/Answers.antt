use Rattle.std.proofs.Common.{ℕ, List, length, take, ap, ◌∙◌}
use Rattle.hlr_program.proofs.DigitLemmas.{first_digits}
use Rattle.hlr_program.proofs.octet_digits.write_few.Goals as goal

pub returns : goal.returns
returns c =
    c.copy_from_slice-2.ensures.after
    ∙ ap (λ (ds : List ℕ). take (length c.args.digits.now) ds) c.digits_of_lot-lot.ensures
    ∙ rw c.copy_from_slice.ensures.after (first_digits c.args.octets.now _ (length c.args.digits.now) c.requires.twice)
