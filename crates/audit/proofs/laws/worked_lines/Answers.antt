use Rattle.std.proofs.Common.{refl}
use Rattle.std.specs.Fmt.{digits}
use Rattle.hex.specs.Hex.{encode_with}
use Rattle.audit.proofs.laws.worked_lines.Goals as goal

pub returns : goal.returns
unfolding digits encode_with
returns c = record {
  frame = refl;
  clock = refl;
  expiry = refl;
  change = refl;
  update = refl;
  cancel = refl;
  new_codes = refl;
  by_shard = refl;
  by_number = refl;
  by_position = refl;
}
