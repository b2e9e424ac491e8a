-- The form of an argument (TS 29.002, 17.7.1 and 17.7.6), as a relation between a tree and an argument: its type, and its
-- value.
use Rattle.std.specs.Prelude.{◌≡◌, ℕ, List, [], ◌∷◌, ◌++◌, Option, Some, None, ◌⊎◌}
use Rattle.x690.specs.declared.Tag.{Tag}
use Rattle.x690.specs.Tree.{Tree, Primitive, element}
use Rattle.hlr_types.specs.Identities.{IsImsi, IsAddress, IsLmsi}
use Rattle.machine.specs.Received.{Argument, BadValue, Update, Purge, Route, Parameter, Mistyped, Typed, Code, Number, Other}
use Rattle.frames.specs.declared.tags.TheConstants.{SEQUENCE, OCTET_STRING, UPDATE_MSC_NUMBER, UPDATE_LMSI, PURGE_ARGUMENT, PURGE_VLR_NUMBER, PURGE_SGSN_NUMBER, ROUTE_MSISDN, SM_RP_PRI, SERVICE_CENTRE}
use Rattle.machine.specs.declared.numbers.TheConstants.{UPDATE_LOCATION, PURGE_MS, SEND_ROUTING_INFO_FOR_SM}
use Rattle.frames.specs.Arguments.{UpdateContents, PurgeContents}

-- an optional element
abbrev pub optional_element : Tag → Option (List ℕ) → List Tree
optional_element tag None = []
optional_element tag (Some octets) = Primitive tag octets ∷ []

-- the first element is primitive and has this tag
abbrev pub BeginsWith : Tag → List Tree → Type 0
BeginsWith tag ts = (octets : List ℕ) × (rest : List Tree) × (ts ≡ Primitive tag octets ∷ rest)

-- UpdateLocationArg. An optional element is absent only if no element with its tag is in its place.
pub record HasUpdate (t : Tree) (c : UpdateContents) : Type 0 where
  pub further : List Tree
  pub spelled : t ≡ element SEQUENCE
      (Primitive OCTET_STRING c.imsi ∷ Primitive UPDATE_MSC_NUMBER c.msc ∷ Primitive OCTET_STRING c.vlr ∷ optional_element UPDATE_LMSI c.lmsi ++ further)
  pub no_lmsi : c.lmsi ≡ None → BeginsWith UPDATE_LMSI further → ⊥

-- PurgeMS-Arg.
pub record HasPurge (t : Tree) (c : PurgeContents) : Type 0 where
  pub sgsn : Option (List ℕ)
  pub further : List Tree
  pub spelled : t ≡ element PURGE_ARGUMENT (Primitive OCTET_STRING c.imsi ∷ optional_element PURGE_VLR_NUMBER c.vlr
      ++ (optional_element PURGE_SGSN_NUMBER sgsn ++ further))
  pub no_vlr : c.vlr ≡ None → BeginsWith PURGE_VLR_NUMBER (optional_element PURGE_SGSN_NUMBER sgsn ++ further) → ⊥

-- RoutingInfoForSM-Arg.
pub record HasRoute (t : Tree) (msisdn : List ℕ) : Type 0 where
  pub priority : ℕ
  pub centre : List ℕ
  pub further : List Tree
  pub spelled : t ≡ element SEQUENCE (Primitive ROUTE_MSISDN msisdn ∷ Primitive SM_RP_PRI (priority ∷ []) ∷ Primitive SERVICE_CENTRE centre ∷ further)

-- The tree is of the type of this operation's argument.
abbrev pub IsTyped : (operation : ℕ) → Tree → Type 0
IsTyped operation t =
    ((operation ≡ UPDATE_LOCATION) × (c : UpdateContents) × HasUpdate t c)
    ⊎ (((operation ≡ PURGE_MS) × (c : PurgeContents) × HasPurge t c)
    ⊎ ((operation ≡ SEND_ROUTING_INFO_FOR_SM) × (msisdn : List ℕ) × HasRoute t msisdn))

-- what may be absent, as octets and as a value
abbrev pub AreIfThere : (List ℕ → List ℕ → Type 0) → Option (List ℕ) → Option (List ℕ) → Type 0
AreIfThere P None None = Unit {0}
AreIfThere P (Some octets) (Some value) = P octets value
AreIfThere P None (Some value) = ⊥
AreIfThere P (Some octets) None = ⊥

-- The tree is this argument of this operation, with all its values.
abbrev pub Arg : (operation : ℕ) → Tree → Argument → Type 0
Arg operation t (Update imsi register) =
    (operation ≡ UPDATE_LOCATION) × (c : UpdateContents) × HasUpdate t c × IsImsi c.imsi imsi × IsAddress c.msc register.msc × IsAddress c.vlr register.vlr
    × AreIfThere IsLmsi c.lmsi register.lmsi
Arg operation t (Purge imsi vlr) = (operation ≡ PURGE_MS) × (c : PurgeContents) × HasPurge t c × IsImsi c.imsi imsi × AreIfThere IsAddress c.vlr vlr
Arg operation t (Route msisdn) = (operation ≡ SEND_ROUTING_INFO_FOR_SM) × (octets : List ℕ) × HasRoute t octets × IsAddress octets msisdn
Arg operation t BadValue = ⊥

-- The tree is this parameter of an Invoke with this code: mistyped if it is not of the operation's type, a bad value if it is
-- but spells no argument. A code that is not the number of an operation that a peer may invoke has no type.
abbrev pub IsParameter : Code → Tree → Parameter → Type 0
IsParameter (Number operation) t Mistyped = IsTyped operation t → ⊥
IsParameter (Number operation) t (Typed BadValue) = IsTyped operation t × ((argument : Argument) → Arg operation t argument → ⊥)
IsParameter (Number operation) t (Typed argument) = Arg operation t argument
IsParameter Other t Mistyped = Unit {0}
IsParameter Other t (Typed argument) = ⊥
