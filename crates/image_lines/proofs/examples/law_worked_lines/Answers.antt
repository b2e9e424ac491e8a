use Rattle.std.proofs.Common.{refl}
use Rattle.image_lines.proofs.LineLaws.{read_found}
use Rattle.image_lines.proofs.ReadingOf.{reading}
use Rattle.image_lines.proofs.examples.law_worked_lines.Goals as goal

pub returns : goal.returns
unfolding reading
returns c = record {
  first_shard = read_found _ _ refl;
  last_shard = read_found _ _ refl;
  used = read_found _ _ refl;
  freed = read_found _ _ refl;
  current_update = read_found _ _ refl;
  other_update = read_found _ _ refl;
  cancel = read_found _ _ refl;
  withdrawal = read_found _ _ refl;
  new_codes = read_found _ _ refl;
  waits = read_found _ _ refl;
  answered = read_found _ _ refl;
  whole = read_found _ _ refl;
}
