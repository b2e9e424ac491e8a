-- An APDU of the code as the one of the definitions.
use Rattle.std.specs.Prelude.{Option, Some, None, Result, Ok, Err}
use Rattle.machine.specs.Received as received
use Rattle.q773_dlg.specs.declared.apdu.Diagnostic.{Diagnostic}
use Rattle.q773_dlg.specs.declared.apdu.Diagnostic.TheVariants.{OfUser, OfProvider}
use Rattle.q773_dlg.specs.declared.apdu.Response.{Response}
use Rattle.q773_dlg.specs.declared.apdu.Apdu.{Apdu}
use Rattle.q773_dlg.specs.declared.apdu.Apdu.TheVariants.{Aarq, Aare, Abrt}
use Rattle.q773_dlg.specs.declared.apdu.Unreadable.{Unreadable}

abbrev pub diagnostic : Diagnostic → received.Diagnostic
diagnostic (OfUser octet) = received.OfUser octet
diagnostic (OfProvider octet) = received.OfProvider octet

abbrev pub response : Response → received.Response
response r = record { context = r.context.now; result = r.result; diagnostic = diagnostic r.diagnostic }

abbrev pub seen : Apdu → received.Apdu
seen (Aarq context) = received.Aarq context.now
seen (Aare r) = received.Aare (response r)
seen (Abrt source) = received.Abrt source

-- what a reader returns
abbrev pub answer : Result Apdu Unreadable → Option received.Apdu
answer (Ok apdu) = Some (seen apdu)
answer (Err unreadable) = None
