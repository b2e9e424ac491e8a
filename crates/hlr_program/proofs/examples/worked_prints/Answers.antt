use Rattle.std.proofs.Common.{refl}
use Rattle.hex.specs.Hex.{encode_with}
use Rattle.texts.specs.Lines.{lines}
use Rattle.hlr_program.proofs.examples.worked_prints.Goals as goal

pub returns : goal.returns
unfolding encode_with lines
returns c = record {
  frame = refl;
  saved_line = refl;
  saved_last = λ shards listed saved is_listed is_saved.
      record { listed = listed; saved = saved; is_listed = is_listed; is_saved = is_saved; whole = refl };
}
