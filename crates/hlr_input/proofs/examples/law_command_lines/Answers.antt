use Rattle.std.proofs.Common.{refl}
use Rattle.hlr_input.specs.CommandLine.{words_said}
use Rattle.hlr_input.proofs.examples.law_command_lines.Goals as goal

pub returns : goal.returns
unfolding words_said
returns c = record {
  paths_alone = refl;
  number_after = refl;
  number_in_word = refl;
  hyphened_path = refl;
  leading_zero = refl;
  seventeen = refl;
  no_number = refl;
  list_twice = refl;
  third_path = refl;
  one_path = refl;
}
