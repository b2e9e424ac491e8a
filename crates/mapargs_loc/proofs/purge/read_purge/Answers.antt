use Rattle.mapargs_loc.specs.Seen.{purge_argument}
use Rattle.machine.specs.declared.numbers.TheConstants.{PURGE_MS}
use Rattle.mapargs_loc.proofs.Reading as reading
use Rattle.mapargs_loc.proofs.Operations.{purge_only, purge_is_value}
use Rattle.mapargs_loc.proofs.purge.read_purge.Goals as goal

pub returns-clause-found : goal.returns-clause-found
returns-clause-found c = reading.found purge_argument PURGE_MS _ _ (purge_only _ _ c.purge_in.ensures)

pub returns-clause-only : goal.returns-clause-only
returns-clause-only c = reading.only purge_argument PURGE_MS _ _ (purge_only _ _ c.purge_in.ensures)

pub returns-clause-mistyped : goal.returns-clause-mistyped
returns-clause-mistyped c = reading.mistyped purge_argument PURGE_MS _ _ (purge_only _ _ c.purge_in.ensures)

pub returns-clause-bad_value : goal.returns-clause-bad_value
returns-clause-bad_value c = reading.bad_value purge_argument purge_is_value PURGE_MS _ _ (purge_only _ _ c.purge_in.ensures)
