use Rattle.std.proofs.Common.{refl}
use Rattle.std.specs.Fmt.{digits}
use Rattle.hlr_program.proofs.examples.worked_endings.Goals as goal

pub returns : goal.returns
unfolding digits
returns c = record {
  command_line = record { status_is = refl; line_is = refl };
  unreadable_records = record { status_is = refl; line_is = refl };
  bad_record = record { status_is = refl; line_is = refl };
  record_twice = record { status_is = refl; line_is = refl };
  unreadable_script = record { status_is = refl; line_is = refl };
  bad_line = record { status_is = refl; line_is = refl };
  no_room = record { status_is = refl; line_is = refl };
  memory = record { status_is = refl; line_is = refl };
  unaccounted = record { status_is = refl; line_is = refl };
  output = record { status_is = refl; line_is = refl };
}
