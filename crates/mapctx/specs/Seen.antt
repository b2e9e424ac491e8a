-- A context of the code as the one of the definitions.
use Rattle.std.specs.Prelude.{ℕ, ◌==◌, cond, Option, Some, None, find, is_some}
use Rattle.machine.specs.declared.numbers.TheConstants.{VERSION_3}
use Rattle.machine.specs.Sent as machine
use Rattle.machine.specs.Contexts as contexts
use Rattle.mapctx.specs.declared.Context.{Context}
use Rattle.mapctx.specs.declared.Context.TheVariants.{NetworkLocUp, LocationCancellation, SubscriberDataMngt, ShortMsgGateway, MsPurging}
use Rattle.mapctx.specs.declared.Named.{Named}
use Rattle.mapctx.specs.declared.Named.TheVariants.{Known, OtherVersion, Unknown}

abbrev pub context : Context → machine.Context
context NetworkLocUp = machine.NetworkLocUp
context LocationCancellation = machine.LocationCancellation
context SubscriberDataMngt = machine.SubscriberDataMngt
context ShortMsgGateway = machine.ShortMsgGateway
context MsPurging = machine.MsPurging

abbrev pub named : Named → contexts.Named
named (Known c) = contexts.Known (context c)
named (OtherVersion c) = contexts.OtherVersion (context c)
named Unknown = contexts.Unknown

-- the context that has this octet in its name
abbrev pub with_octet : ℕ → Option machine.Context
with_octet octet = find (λ c. contexts.octet_of c == octet) contexts.contexts

-- what the two octets say that differ between MAP's names
abbrev pub by_octets : Option machine.Context → ℕ → contexts.Named
by_octets None version = contexts.Unknown
by_octets (Some c) version =
    cond (version == VERSION_3) (contexts.Known c) (cond (is_some (contexts.operation_of c)) (contexts.OtherVersion c) contexts.Unknown)
