-- Reading the parameter of a received Invoke, by its operation (TS 29.002, 17.7.1 and 17.7.6). The type is its tags, their
-- order, and one octet for a BOOLEAN (X.690, 8.2); values are checked after the whole type (profile). A tag says whether its
-- element is primitive: a constructed element in the place of an lmsi, a vlr-Number or an sgsn-Number has another tag, so
-- it is a further element.
use Rattle.std.specs.Prelude.{ℕ, List, Option, Some, None, ◌==◌, if◌then◌else◌, option_map, unwrap_or}
use Rattle.x690.specs.Tree.{Tree}
use Rattle.x690.specs.Reading.{octets_of, octet_of, children_of}
use Rattle.x690.specs.Elements.{first, optional}
use Rattle.hlr_types.specs.Identities.{imsi_of, address_of, lmsi_of}
use Rattle.machine.specs.Received.{Argument, BadValue, Update, Purge, Route, Parameter, Mistyped, Typed, Code, Number, Other}
use Rattle.frames.specs.declared.tags.TheConstants.{SEQUENCE, OCTET_STRING, UPDATE_MSC_NUMBER, UPDATE_LMSI, PURGE_ARGUMENT, PURGE_VLR_NUMBER, ROUTE_MSISDN, SM_RP_PRI, SERVICE_CENTRE}
use Rattle.machine.specs.declared.numbers.TheConstants.{UPDATE_LOCATION, PURGE_MS, SEND_ROUTING_INFO_FOR_SM}
use Rattle.frames.specs.Choices.{◌>>=◌}

-- what may be absent, and is a value if it is there
abbrev pub if_there : (List ℕ → Option (List ℕ)) → Option (List ℕ) → Option (Option (List ℕ))
if_there read None = Some None
if_there read (Some octets) = option_map Some (read octets)

-- mistyped without contents of the type, and a bad value if one of the contents is invalid
abbrev pub in_value : {C : Type 0} → (C → Option Argument) → Option C → Parameter
in_value value None = Mistyped
in_value value (Some contents) = Typed (unwrap_or (value contents) BadValue)

-- The contents of an UpdateLocationArg: imsi, msc-Number, vlr-Number, an optional lmsi, and further elements, which are not
-- read.
pub record UpdateContents : Type 0 where
  pub imsi : List ℕ
  pub msc : List ℕ
  pub vlr : List ℕ
  pub lmsi : Option (List ℕ)

unfoldable pub update_typed : Tree → Option UpdateContents
update_typed t = do
  ts ← children_of SEQUENCE t
  imsi ← first (octets_of OCTET_STRING) ts
  msc ← first (octets_of UPDATE_MSC_NUMBER) imsi.1
  vlr ← first (octets_of OCTET_STRING) msc.1
  let lmsi = optional (octets_of UPDATE_LMSI) vlr.1
  Some (record { imsi = imsi.0; msc = msc.0; vlr = vlr.0; lmsi = lmsi.0 })

unfoldable pub update_value : UpdateContents → Option Argument
update_value c = do
  imsi ← imsi_of c.imsi
  msc ← address_of c.msc
  vlr ← address_of c.vlr
  lmsi ← if_there lmsi_of c.lmsi
  Some (Update imsi (record { vlr = vlr; msc = msc; lmsi = lmsi }))

abbrev pub update_of : Tree → Parameter
update_of t = in_value update_value (update_typed t)

-- The contents of a PurgeMS-Arg: imsi, an optional vlr-Number, an optional sgsn-Number and further elements, which are not
-- read.
pub record PurgeContents : Type 0 where
  pub imsi : List ℕ
  pub vlr : Option (List ℕ)

unfoldable pub purge_typed : Tree → Option PurgeContents
purge_typed t = do
  ts ← children_of PURGE_ARGUMENT t
  imsi ← first (octets_of OCTET_STRING) ts
  let vlr = optional (octets_of PURGE_VLR_NUMBER) imsi.1
  Some (record { imsi = imsi.0; vlr = vlr.0 })

unfoldable pub purge_value : PurgeContents → Option Argument
purge_value c = do
  imsi ← imsi_of c.imsi
  vlr ← if_there address_of c.vlr
  Some (Purge imsi vlr)

abbrev pub purge_of : Tree → Parameter
purge_of t = in_value purge_value (purge_typed t)

-- The msisdn of a RoutingInfoForSM-Arg: msisdn, sm-RP-PRI, which is a BOOLEAN, serviceCentreAddress, and further elements.
-- Only the msisdn's value is read.
unfoldable pub route_typed : Tree → Option (List ℕ)
route_typed t = do
  ts ← children_of SEQUENCE t
  msisdn ← first (octets_of ROUTE_MSISDN) ts
  priority ← first (octet_of SM_RP_PRI) msisdn.1
  centre ← first (octets_of SERVICE_CENTRE) priority.1
  Some msisdn.0

unfoldable pub route_value : List ℕ → Option Argument
route_value msisdn = option_map Route (address_of msisdn)

abbrev pub route_of : Tree → Parameter
route_of t = in_value route_value (route_typed t)

-- the parameter of an Invoke with this code; mistyped for an operation that no peer may invoke
unfoldable pub parameter_of : Code → Tree → Parameter
parameter_of (Number operation) t =
    if operation == UPDATE_LOCATION then update_of t else
    if operation == PURGE_MS then purge_of t else
    if operation == SEND_ROUTING_INFO_FOR_SM then route_of t else
    Mistyped
parameter_of Other t = Mistyped
