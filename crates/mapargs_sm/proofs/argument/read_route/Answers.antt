use Rattle.machine.specs.declared.numbers.TheConstants.{SEND_ROUTING_INFO_FOR_SM}
use Rattle.mapargs_loc.proofs.Reading as reading
use Rattle.mapargs_sm.specs.Seen.{route_argument}
use Rattle.mapargs_sm.proofs.Operation.{route_only, route_is_value}
use Rattle.mapargs_sm.proofs.argument.read_route.Goals as goal

pub returns-clause-found : goal.returns-clause-found
returns-clause-found c = reading.found route_argument SEND_ROUTING_INFO_FOR_SM _ _ (route_only _ _ c.route_in.ensures)

pub returns-clause-only : goal.returns-clause-only
returns-clause-only c = reading.only route_argument SEND_ROUTING_INFO_FOR_SM _ _ (route_only _ _ c.route_in.ensures)

pub returns-clause-mistyped : goal.returns-clause-mistyped
returns-clause-mistyped c = reading.mistyped route_argument SEND_ROUTING_INFO_FOR_SM _ _ (route_only _ _ c.route_in.ensures)

pub returns-clause-bad_value : goal.returns-clause-bad_value
returns-clause-bad_value c = reading.bad_value route_argument route_is_value SEND_ROUTING_INFO_FOR_SM _ _ (route_only _ _ c.route_in.ensures)
