use Rattle.std.proofs.Common.{◌≡◌}
use Rattle.std.specs.List.{list_all}
use Rattle.std.specs.Prelude.{take}
use Rattle.hex.specs.Hex.{is_hex_digit}
use Rattle.hlr_input.proofs.frame_octets.are_digits.Given as goal

abbrev pub invariant-loop-character : goal.invariant-loop-character
invariant-loop-character l = l.all ≡ list_all is_hex_digit (take l.character-index l.text)
