-- Reading the APDU that a dialogue portion holds (Q.773, dialogue portion). If there is none, the portion is unreadable.
use Rattle.std.specs.Prelude.{ℕ, List, [], ◌∷◌, Option, Some, None, Bool, true, false, if◌then◌else◌, ◌&&◌, nat_lt, nat_le, length, option_and_then, is_some}
use Rattle.std.specs.Str.{bytes_eq}
use Rattle.x690.specs.declared.Tag.{Tag}
use Rattle.x690.specs.Tree.{Tree}
use Rattle.x690.specs.Reading.{octets_of, octet_of, children_of, only_child}
use Rattle.x690.specs.Elements.{first, optional}
use Rattle.machine.specs.Received.{Diagnostic, OfUser, OfProvider, Apdu, Aarq, Aare, Abrt}
use Rattle.frames.specs.declared.tags.TheConstants.{INTEGER, OBJECT_IDENTIFIER, EXTERNAL, DIALOGUE_PORTION, SINGLE_ASN1_TYPE, AARQ, AARE, ABRT, VERSION, CONTEXT_NAME, RESULT, RESULT_SOURCE, DIAGNOSTIC_OF_USER, DIAGNOSTIC_OF_PROVIDER, ABORT_SOURCE, USER_INFORMATION}
use Rattle.machine.specs.declared.numbers.TheConstants.{MAX_CONTEXT_NAME}
use Rattle.frames.specs.declared.numbers.TheConstants.{DIALOGUE_AS_ID}
use Rattle.frames.specs.Choices.{◌>>=◌, or, when}

-- a BIT STRING that is a version: at most seven bits unused, and the first bit set (profile)
abbrev pub is_version : List ℕ → Bool
is_version [] = false
is_version (unused ∷ []) = false
is_version (unused ∷ bits ∷ rest) = nat_le unused 7 && nat_le 128 bits

-- what follows an optional version
abbrev pub after_version : Option (List ℕ) × List Tree → Option (List Tree)
after_version (None, ts) = Some ts
after_version (Some octets, ts) = when (is_version octets) ts

-- a context's name of 1 to 32 octets
abbrev pub context_of : Tree → Option (List ℕ)
context_of t = do
  child ← only_child CONTEXT_NAME t
  name ← octets_of OBJECT_IDENTIFIER child
  when (nat_lt 0 (length name) && nat_le (length name) MAX_CONTEXT_NAME) name

-- a result: any octet (profile)
abbrev pub result_of : Tree → Option ℕ
result_of t = do
  child ← only_child RESULT t
  octet_of INTEGER child

-- a diagnostic of the user or of the provider: any octet (profile)
abbrev pub diagnostic_under : Tag → (ℕ → Diagnostic) → Tree → Option Diagnostic
diagnostic_under tag source t = do
  child ← only_child tag t
  octet ← octet_of INTEGER child
  Some (source octet)

abbrev pub diagnostic_of : Tree → Option Diagnostic
diagnostic_of t = do
  child ← only_child RESULT_SOURCE t
  or (diagnostic_under DIAGNOSTIC_OF_USER OfUser child) (diagnostic_under DIAGNOSTIC_OF_PROVIDER OfProvider child)

-- an APDU may end with user information, which is not read
abbrev pub may_end_apdu : List Tree → Bool
may_end_apdu [] = true
may_end_apdu (t ∷ []) = is_some (children_of USER_INFORMATION t)
may_end_apdu (t ∷ u ∷ ts) = false

unfoldable pub request_of : List Tree → Option Apdu
request_of ts = do
  unversioned ← after_version (optional (octets_of VERSION) ts)
  context ← first context_of unversioned
  when (may_end_apdu context.1) (Aarq context.0)

unfoldable pub response_of : List Tree → Option Apdu
response_of ts = do
  unversioned ← after_version (optional (octets_of VERSION) ts)
  context ← first context_of unversioned
  outcome ← first result_of context.1
  diagnostic ← first diagnostic_of outcome.1
  when (may_end_apdu diagnostic.1) (Aare (record { context = context.0; result = outcome.0; diagnostic = diagnostic.0 }))

-- an ABRT's source is the user, 0, or the provider, 1
unfoldable pub dialogue_abort_of : List Tree → Option Apdu
dialogue_abort_of ts = do
  source ← first (octet_of ABORT_SOURCE) ts
  when (nat_le source.0 1 && may_end_apdu source.1) (Abrt source.0)

abbrev pub apdu_of : Tree → Option Apdu
apdu_of t =
    or (option_and_then request_of (children_of AARQ t))
    (or (option_and_then response_of (children_of AARE t)) (option_and_then dialogue_abort_of (children_of ABRT t)))

-- an EXTERNAL of the dialogue's abstract syntax, with one APDU
abbrev pub in_external : List Tree → Option Apdu
in_external [] = None
in_external (syntax ∷ []) = None
in_external (syntax ∷ encoding ∷ []) = do
  name ← octets_of OBJECT_IDENTIFIER syntax
  apdu ← only_child SINGLE_ASN1_TYPE encoding
  if bytes_eq name DIALOGUE_AS_ID then apdu_of apdu else None
in_external (syntax ∷ encoding ∷ t ∷ ts) = None

-- the APDU of a dialogue portion
unfoldable pub dialogue_of : Tree → Option Apdu
dialogue_of t = do
  external ← only_child DIALOGUE_PORTION t
  ts ← children_of EXTERNAL external
  in_external ts
