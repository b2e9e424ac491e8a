-- The form of a dialogue portion (Q.773, dialogue portion), as a relation between a tree and the APDU that it holds.
use Rattle.std.specs.Prelude.{◌≡◌, ℕ, ◌≤◌, List, [], ◌∷◌, ◌++◌, length, ◌⊎◌}
use Rattle.x690.specs.declared.Tag.{Tag}
use Rattle.x690.specs.Tree.{Tree, Primitive, element}
use Rattle.machine.specs.Received.{Diagnostic, OfUser, OfProvider, Apdu, Aarq, Aare, Abrt}
use Rattle.frames.specs.declared.tags.TheConstants.{INTEGER, OBJECT_IDENTIFIER, EXTERNAL, DIALOGUE_PORTION, SINGLE_ASN1_TYPE, AARQ, AARE, ABRT, VERSION, CONTEXT_NAME, RESULT, RESULT_SOURCE, DIAGNOSTIC_OF_USER, DIAGNOSTIC_OF_PROVIDER, ABORT_SOURCE, USER_INFORMATION}
use Rattle.machine.specs.declared.numbers.TheConstants.{MAX_CONTEXT_NAME}
use Rattle.frames.specs.declared.numbers.TheConstants.{DIALOGUE_AS_ID}

-- A version is a BIT STRING (X.690, 8.6) of at least two octets: at most seven bits unused, and the first bit set (profile).
abbrev pub IsVersion : List ℕ → Type 0
IsVersion octets = (unused bits : ℕ) × (rest : List ℕ) × (octets ≡ unused ∷ bits ∷ rest) × (unused ≤ 7) × (128 ≤ bits)

-- an optional version
abbrev pub AreVersion : List Tree → Type 0
AreVersion ts = (ts ≡ []) ⊎ ((octets : List ℕ) × (ts ≡ Primitive VERSION octets ∷ []) × IsVersion octets)

-- the name of an application context, which has 1 to 32 octets (profile)
abbrev pub IsContext : Tree → List ℕ → Type 0
IsContext t name = (t ≡ element CONTEXT_NAME (Primitive OBJECT_IDENTIFIER name ∷ [])) × (1 ≤ length name) × (length name ≤ MAX_CONTEXT_NAME)

-- an INTEGER of one octet, in an element of its own
abbrev pub octet_in : Tag → ℕ → Tree
octet_in tag octet = element tag (Primitive INTEGER (octet ∷ []) ∷ [])

abbrev pub diagnostic_tree : Diagnostic → Tree
diagnostic_tree (OfUser octet) = element RESULT_SOURCE (octet_in DIAGNOSTIC_OF_USER octet ∷ [])
diagnostic_tree (OfProvider octet) = element RESULT_SOURCE (octet_in DIAGNOSTIC_OF_PROVIDER octet ∷ [])

-- optional user information, whatever it holds
abbrev pub AreInformation : List Tree → Type 0
AreInformation ts = (ts ≡ []) ⊎ ((us : List Tree) × (ts ≡ element USER_INFORMATION us ∷ []))

-- The tree is this APDU. An ABRT's source is the user, 0, or the provider, 1.
abbrev pub IsApdu : Tree → Apdu → Type 0
IsApdu t (Aarq name) =
    (vs : List Tree) × AreVersion vs × (c : Tree) × IsContext c name × (us : List Tree) × AreInformation us
    × (t ≡ element AARQ (vs ++ c ∷ us))
IsApdu t (Aare response) =
    (vs : List Tree) × AreVersion vs × (c : Tree) × IsContext c response.context × (us : List Tree) × AreInformation us
    × (t ≡ element AARE (vs ++ c ∷ octet_in RESULT response.result ∷ diagnostic_tree response.diagnostic ∷ us))
IsApdu t (Abrt source) =
    (us : List Tree) × AreInformation us × (source ≤ 1) × (t ≡ element ABRT (Primitive ABORT_SOURCE (source ∷ []) ∷ us))

-- the dialogue portion around an APDU: an EXTERNAL (X.690, 8.18) of the dialogue's abstract syntax
abbrev pub portion_tree : Tree → Tree
portion_tree apdu =
    element DIALOGUE_PORTION (element EXTERNAL (Primitive OBJECT_IDENTIFIER DIALOGUE_AS_ID ∷ element SINGLE_ASN1_TYPE (apdu ∷ []) ∷ []) ∷ [])

-- The tree is a dialogue portion that holds this APDU.
abbrev pub IsDialogue : Tree → Apdu → Type 0
IsDialogue t apdu = (inner : Tree) × IsApdu inner apdu × (t ≡ portion_tree inner)
