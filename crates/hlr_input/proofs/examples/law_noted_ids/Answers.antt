use Rattle.std.proofs.Common.{refl}
use Rattle.hlr_input.proofs.examples.law_noted_ids.Goals as goal

pub returns : goal.returns
returns c = record { of_begin = refl; of_continue = refl; of_end = refl; long_length = refl; in_order = refl; once = refl }
