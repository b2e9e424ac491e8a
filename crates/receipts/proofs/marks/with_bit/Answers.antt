use Rattle.std.proofs.Common.{w16}
use Rattle.std.proofs.lemmas.Nat.Bits.{bit_at_set_same, bit_at_set_other}
use Rattle.receipts.proofs.marks.with_bit.Goals as goal

pub returns : goal.returns
returns c = record { set = bit_at_set_same w16 _ _ c.requires; others = bit_at_set_other w16 _ _ c.requires }
