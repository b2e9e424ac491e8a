-- The reader's answer is tied to the form of its operation.
use Rattle.std.proofs.Common.{◌≡◌}
use Rattle.std.specs.Prelude.{Result}
use Rattle.x690.specs.Tree.{Tree}
use Rattle.machine.specs.Received.{BadValue}
use Rattle.machine.specs.declared.numbers.TheConstants.{SEND_ROUTING_INFO_FOR_SM}
use Rattle.frames.specs.Arguments.{route_of}
use Rattle.frames.proofs.ArgumentLaws.{route_found, route_again}
use Rattle.mapargs_loc.specs.declared.fault.ArgFault.{ArgFault}
use Rattle.mapargs_loc.specs.Seen.{answer}
use Rattle.mapargs_loc.proofs.Reading.{IsOnly, answer-only}
use Rattle.mapargs_sm.specs.declared.argument.RouteArg.{RouteArg}
use Rattle.mapargs_sm.specs.Seen.{route_argument}

pub route_only : (t : Tree) (r : Result RouteArg ArgFault) → answer route_argument r ≡ route_of t → IsOnly SEND_ROUTING_INFO_FOR_SM t (answer route_argument r)
route_only t r is = answer-only route_argument SEND_ROUTING_INFO_FOR_SM t r (route_of t) is (record { found = route_found t; again = route_again t })

pub route_is_value : (r : RouteArg) → route_argument r ≡ BadValue → ⊥
route_is_value r e = cc
