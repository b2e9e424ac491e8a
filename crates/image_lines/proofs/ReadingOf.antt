-- What an answer unfolds to compute the reading of a literal.
use Rattle.std.specs.Prelude.{⊤}
use Rattle.std.specs.Fmt.{digits}
use Rattle.hex.specs.Hex.{decode_pairs, encode_with}
use Rattle.image_lines.specs.Reading.{cancel_in, data_in, decimal_in, dialogue_in, end_in, few_octets_in, id_in, kind_by, kind_in, line_by, line_in, lmsi_in, octets_in, opened_in, remote_in, shard_in, signed_in, up_to, update_in, waits_in}

unfoldable pub reading : ⊤
unfolding digits decode_pairs encode_with cancel_in data_in decimal_in dialogue_in end_in few_octets_in id_in kind_by kind_in line_by line_in lmsi_in octets_in opened_in remote_in shard_in signed_in up_to update_in waits_in
reading = tt
