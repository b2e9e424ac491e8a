use Rattle.std.proofs.Common.{refl}
use Rattle.image_lines.proofs.LineLaws.{no_line}
use Rattle.image_lines.proofs.ReadingOf.{reading}
use Rattle.image_lines.proofs.examples.law_no_lines.Goals as goal

pub returns : goal.returns
unfolding reading
returns c = record {
  empty = no_line _ refl;
  other_letter = no_line _ refl;
  other_version = no_line _ refl;
  shard_16 = no_line _ refl;
  late_clock = no_line _ refl;
  leading_zero = no_line _ refl;
  plus = no_line _ refl;
  lower_case = no_line _ refl;
  seven_digits = no_line _ refl;
  no_id = no_line _ refl;
  two_spaces = no_line _ refl;
  space_at_end = no_line _ refl;
  seventeen_digits = no_line _ refl;
  short_imsi = no_line _ refl;
  five_octets = no_line _ refl;
  no_mark = no_line _ refl;
  attempt_256 = no_line _ refl;
  data_with_more = no_line _ refl;
  minus_zero = no_line _ refl;
  invoke_128 = no_line _ refl;
  late_deadline = no_line _ refl;
  line_feed = no_line _ refl;
  end_of_a_shard = no_line _ refl;
  end_in_lower_case = no_line _ refl;
}
