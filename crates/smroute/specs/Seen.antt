-- A record of the code as the machine's subscriber, and an answer of the code as the machine's.
use Rattle.std.specs.Prelude.{option_map}
use Rattle.hlr_types.specs.declared.register.Register.{Register}
use Rattle.records.specs.Subscriber.{Subscriber}
use Rattle.machine.specs.Received as received
use Rattle.machine.specs.State as machine
use Rattle.machine.specs.SmRoute as route
use Rattle.smroute.specs.declared.answer.RouteAnswer.{RouteAnswer}
use Rattle.smroute.specs.declared.answer.RouteAnswer.TheVariants.{NoRoute, RouteTo}

abbrev pub machine_register : Register → received.Register
machine_register r = record { vlr = r.vlr; msc = r.msc; lmsi = r.lmsi }

-- The machine keeps subscribers by IMSI, so the IMSI is not one of the fields.
abbrev pub machine_subscriber : Subscriber → machine.Subscriber
machine_subscriber s = record {
  msisdn = s.msisdn;
  codes = s.codes;
  roam = s.roam;
  register = option_map machine_register s.register;
  purged = s.purged;
  current = s.current;
  withdrawn = s.withdrawn;
}

abbrev pub machine_answer : RouteAnswer → route.RouteAnswer
machine_answer (NoRoute error) = route.NoRoute error
machine_answer (RouteTo imsi msc lmsi) = route.RouteTo imsi msc lmsi
