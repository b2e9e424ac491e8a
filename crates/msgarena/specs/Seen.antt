-- What is read, as the values of the machine.
use Rattle.std.specs.Prelude.{map, option_map}
use Rattle.machine.specs.Received as received
use Rattle.mapargs_loc.specs.Seen.{update_argument, purge_argument}
use Rattle.mapargs_loc.specs.declared.fault.ArgFault.{ArgFault}
use Rattle.mapargs_loc.specs.declared.fault.ArgFault.TheVariants as fault
use Rattle.mapargs_sm.specs.Seen.{route_argument}
use Rattle.q773_comp.specs.Seen.{component}
use Rattle.q773_dlg.specs.Seen.{diagnostic}
use Rattle.msgarena.specs.Kept.{kept}
use Rattle.msgarena.specs.declared.parameter.Argument.{Argument}
use Rattle.msgarena.specs.declared.parameter.Argument.TheVariants.{BadValue, Update, Purge, Route}
use Rattle.msgarena.specs.declared.parameter.Parameter.{Parameter}
use Rattle.msgarena.specs.declared.parameter.Parameter.TheVariants.{Mistyped, Typed}
use Rattle.msgarena.specs.declared.message.Response.{Response}
use Rattle.msgarena.specs.declared.message.ReadMessage.{ReadMessage}
use Rattle.msgarena.specs.declared.message.ReadMessage.TheVariants.{Begin, Continue, End, Abort}
use Rattle.msgarena.specs.declared.message.Verdict.{Verdict}
use Rattle.msgarena.specs.declared.message.Verdict.TheVariants.{Discard, Refuse, Read}

abbrev pub argument : Argument → received.Argument
argument BadValue = received.BadValue
argument (Update update) = update_argument update
argument (Purge purge) = purge_argument purge
argument (Route route) = route_argument route

-- a parameter that is no argument
abbrev pub unread : ArgFault → received.Parameter
unread fault.Mistyped = received.Mistyped
unread fault.BadValue = received.Typed received.BadValue

abbrev pub parameter : Parameter → received.Parameter
parameter Mistyped = received.Mistyped
parameter (Typed a) = received.Typed (argument a)

abbrev pub response : Response → received.Response
response r = record { context = r.context; result = r.result; diagnostic = diagnostic r.diagnostic }

abbrev pub message : ReadMessage → received.Message
message (Begin origin context components) = received.Begin origin context (map (component parameter) (kept components))
message (Continue origin destination r components) =
    received.Continue origin destination (option_map response r) (map (component parameter) (kept components))
message (End destination r components) = received.End destination (option_map response r) (map (component parameter) (kept components))
message (Abort destination) = received.Abort destination

abbrev pub seen : Verdict → received.Verdict
seen Discard = received.Discard
seen (Refuse origin cause) = received.Refuse origin cause
seen (Read m) = received.Read (message m)
