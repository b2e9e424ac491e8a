-- The lines of an image (profile): the text from which the open dialogues of a shard are restored. The fields of a line have one space
-- between them.
use Rattle.std.specs.Prelude.{◌≡◌, ◌<◌, ◌≤◌, ◌^◌, ℕ, Bool, true, false, List, [], ◌∷◌, length, Option, Some, None, FitsSigned, codes as text}
use Rattle.std.specs.Fmt.{decimal, signed_decimal}
use Rattle.std.specs.Int.{w8}
use Rattle.std.specs.List.{join_with_byte}
use Rattle.hex.specs.Hex.{encode_upper}
use Rattle.octets.specs.Octets.{AreOctets, HasIdLength}
use Rattle.hlr_types.specs.Digits.{AreSomeDigits, AreImsiDigits}
use Rattle.hlr_types.specs.DigitTexts.{text_of}
use Rattle.machine.specs.declared.numbers.TheConstants.{MAX_CLOCK}
use Rattle.machine.specs.Received.{Register}
use Rattle.machine.specs.Sent.{CancellationType, UpdateProcedure, SubscriptionWithdraw}
use Rattle.machine.specs.State.{Dialogue, Invocation, Kind, Updates, Cancels, Data, Was, OperationSent, WaitForReject}

-- What a line has: a shard, with its clock and the generation before the first use of a slot; a slot that was used, by its last local id;
-- a slot that is free; an open dialogue, of which the invocations stand in the lines before; an invocation of the next dialogue; or nothing:
-- the shard is whole, all its slots and dialogues stand in the lines before.
pub data Line : Type 0 where
  Shard : (shard clock first : ℕ) → Line
  Used : (id : List ℕ) → Line
  Freed : (id : List ℕ) → Line
  Opened : (id : List ℕ) → (is_current : Bool) → Dialogue → Line
  Waits : Invocation → Line
  End : Line

-- ---- fields

-- octets in hexadecimal, or `-` if there are none
abbrev pub octets_text : Option (List ℕ) → List ℕ
octets_text None = text "-"
octets_text (Some octets) = encode_upper octets

-- `*` for its subscriber's current update
abbrev pub mark_text : (is_current : Bool) → List ℕ
mark_text true = text "*"
mark_text false = text "-"

abbrev pub was_text : Was → List ℕ
was_text OperationSent = text "sent"
was_text WaitForReject = text "wait"

abbrev pub why_text : CancellationType → List ℕ
why_text UpdateProcedure = text "update"
why_text SubscriptionWithdraw = text "withdraw"

abbrev pub kind_text : Kind → List ℕ
kind_text (Updates register invoke) = text "update"
kind_text (Cancels vlr attempt why) = text "cancel"
kind_text Data = text "data"

-- what follows the kind
abbrev pub kind_values : Kind → List (List ℕ)
kind_values (Updates register invoke) = text_of register.vlr ∷ text_of register.msc ∷ octets_text register.lmsi ∷ signed_decimal invoke ∷ []
kind_values (Cancels vlr attempt why) = text_of vlr ∷ decimal attempt ∷ why_text why ∷ []
kind_values Data = []

abbrev pub kind_fields : Kind → List (List ℕ)
kind_fields kind = kind_text kind ∷ kind_values kind

-- an open dialogue, without its invocations
abbrev pub dialogue_fields : (is_current : Bool) → Dialogue → List (List ℕ)
dialogue_fields is_current d =
    text_of d.subscriber ∷ text_of d.transaction.peer ∷ octets_text d.transaction.remote ∷ mark_text is_current ∷ kind_fields d.kind

abbrev pub fields : Line → List (List ℕ)
fields (Shard shard clock first) = text "S1" ∷ decimal shard ∷ decimal clock ∷ decimal first ∷ []
fields (Used id) = text "T" ∷ encode_upper id ∷ []
fields (Freed id) = text "F" ∷ encode_upper id ∷ []
fields (Opened id is_current d) = text "D" ∷ encode_upper id ∷ dialogue_fields is_current d
fields (Waits v) = text "I" ∷ signed_decimal v.id ∷ was_text v.was ∷ decimal v.deadline ∷ []
fields End = text "E" ∷ []

-- The text of a line, without a line feed. The invocations of an open dialogue are no part of it.
abbrev pub line_text : Line → List ℕ
line_text line = join_with_byte 32 (fields line)

-- ---- what a line may have

-- four octets: a local id, or an LMSI
pub record AreFour (octets : List ℕ) : Type 0 where
  pub four : length octets ≡ 4
  pub each : AreOctets octets

-- the peer's transaction id
pub record IsRemote (id : List ℕ) : Type 0 where
  pub count : HasIdLength id
  pub each : AreOctets id

abbrev pub IfKnown : (List ℕ → Type 0) → Option (List ℕ) → Type 0
IfKnown Is None = Unit {0}
IfKnown Is (Some octets) = Is octets

pub record IsRegister (register : Register) : Type 0 where
  pub vlr : AreSomeDigits register.vlr
  pub msc : AreSomeDigits register.msc
  pub lmsi : IfKnown AreFour register.lmsi

abbrev pub IsKind : Kind → Type 0
IsKind (Updates register invoke) = IsRegister register × FitsSigned w8 invoke
IsKind (Cancels vlr attempt why) = AreSomeDigits vlr × (attempt < 256)
IsKind Data = Unit {0}

-- an open dialogue as its line has it
pub record IsOpened (d : Dialogue) : Type 0 where
  pub digits : AreSomeDigits d.subscriber
  pub imsi : AreImsiDigits d.subscriber
  pub peer : AreSomeDigits d.transaction.peer
  pub remote : IfKnown IsRemote d.transaction.remote
  pub no_invocations : d.invocations ≡ []
  pub kind : IsKind d.kind

pub record IsShard (shard clock first : ℕ) : Type 0 where
  pub number : shard < 16
  pub ticks : clock ≤ MAX_CLOCK
  pub generation : first < 4096

abbrev pub IsLine : Line → Type 0
IsLine (Shard shard clock first) = IsShard shard clock first
IsLine (Used id) = AreFour id
IsLine (Freed id) = AreFour id
IsLine (Opened id is_current d) = AreFour id × IsOpened d
IsLine (Waits v) = FitsSigned w8 v.id × (v.deadline < 2 ^ 64)
IsLine End = Unit {0}

-- A shard is within its limits; the other lines have none that the code's types do not have.
abbrev pub HasLimits : Line → Type 0
HasLimits (Shard shard clock first) = IsShard shard clock first
HasLimits _ = Unit {0}
