-- What is read, as the value of the machine.
use Rattle.machine.specs.Received as machine
use Rattle.machine.specs.Received.{Argument}
use Rattle.mapargs_sm.specs.declared.argument.RouteArg.{RouteArg}

abbrev pub route_argument : RouteArg → Argument
route_argument r = machine.Route r.msisdn
