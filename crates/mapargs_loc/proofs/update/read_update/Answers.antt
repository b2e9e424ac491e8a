use Rattle.mapargs_loc.specs.Seen.{update_argument}
use Rattle.machine.specs.declared.numbers.TheConstants.{UPDATE_LOCATION}
use Rattle.mapargs_loc.proofs.Reading as reading
use Rattle.mapargs_loc.proofs.Operations.{update_only, update_is_value}
use Rattle.mapargs_loc.proofs.update.read_update.Goals as goal

pub returns-clause-found : goal.returns-clause-found
returns-clause-found c = reading.found update_argument UPDATE_LOCATION _ _ (update_only _ _ c.update_in.ensures)

pub returns-clause-only : goal.returns-clause-only
returns-clause-only c = reading.only update_argument UPDATE_LOCATION _ _ (update_only _ _ c.update_in.ensures)

pub returns-clause-mistyped : goal.returns-clause-mistyped
returns-clause-mistyped c = reading.mistyped update_argument UPDATE_LOCATION _ _ (update_only _ _ c.update_in.ensures)

pub returns-clause-bad_value : goal.returns-clause-bad_value
returns-clause-bad_value c = reading.bad_value update_argument update_is_value UPDATE_LOCATION _ _ (update_only _ _ c.update_in.ensures)
