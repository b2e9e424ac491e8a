-- The form of each component (Q.773, component portion), as a relation between a tree and a component.
use Rattle.std.specs.Prelude.{◌≡◌, ℕ, ℤ, ◌≤◌, List, [], ◌∷◌, ◌++◌, length, Option, Some, None, ◌⊎◌, option_to_list}
use Rattle.std.specs.Int.{w8, cast_signed}
use Rattle.x690.specs.declared.Tag.{Tag}
use Rattle.x690.specs.Tree.{Tree, Primitive, element}
use Rattle.machine.specs.Received.{Code, Number, Other, Side, General, OfInvoke, OfResult, OfError, ComponentOf, Invoke, ResultLast, ResultNotLast, ReturnError, Reject, Bad, Ignored}
use Rattle.frames.specs.declared.tags.TheConstants.{INTEGER, NULL, OBJECT_IDENTIFIER, SEQUENCE, LINKED_ID, GENERAL_PROBLEM, INVOKE_PROBLEM, RESULT_PROBLEM, ERROR_PROBLEM, INVOKE, RESULT_LAST, RETURN_ERROR, REJECT, RESULT_NOT_LAST}
use Rattle.frames.specs.declared.numbers.TheConstants.{UNRECOGNIZED_COMPONENT, MISTYPED_COMPONENT}

-- an id is one octet, a number from -128 to 127
abbrev pub IsId : Tag → Tree → ℤ → Type 0
IsId tag t id = (octet : ℕ) × (t ≡ Primitive tag (octet ∷ [])) × (cast_signed w8 octet ≡ id)

-- an optional linked id
abbrev pub AreLinked : List Tree → Option ℤ → Type 0
AreLinked ts None = ts ≡ []
AreLinked ts (Some id) = (t : Tree) × (ts ≡ t ∷ []) × IsId LINKED_ID t id

-- A code is a nonempty INTEGER or OBJECT IDENTIFIER. It is a number only as an INTEGER of one octet.
abbrev pub IsCode : Tree → Code → Type 0
IsCode t (Number n) = t ≡ Primitive INTEGER (n ∷ [])
IsCode t Other =
    (octets : List ℕ)
    × (((t ≡ Primitive INTEGER octets) × (2 ≤ length octets)) ⊎ ((t ≡ Primitive OBJECT_IDENTIFIER octets) × (1 ≤ length octets)))

-- a code, and at most one parameter
abbrev pub AreCoded : List Tree → Code → Option Tree → Type 0
AreCoded ts code parameter = (t : Tree) × IsCode t code × (ts ≡ t ∷ option_to_list parameter)

-- after a result's id: nothing, or a SEQUENCE of a code and at most one parameter
abbrev pub AreOutcome : List Tree → Type 0
AreOutcome ts = (ts ≡ []) ⊎ ((cs : List Tree) × (code : Code) × (parameter : Option Tree) × AreCoded cs code parameter × (ts ≡ element SEQUENCE cs ∷ []))

abbrev pub problem_tag : Side → Tag
problem_tag General = GENERAL_PROBLEM
problem_tag OfInvoke = INVOKE_PROBLEM
problem_tag OfResult = RESULT_PROBLEM
problem_tag OfError = ERROR_PROBLEM

-- what a Reject rejects: an id, or a NULL
abbrev pub IsRejected : Tree → Option ℤ → Type 0
IsRejected t None = t ≡ Primitive NULL []
IsRejected t (Some id) = IsId INTEGER t id

-- The tree is this well-formed component: its elements in order.
abbrev pub IsWellFormed : Tree → ComponentOf Tree → Type 0
IsWellFormed t (Invoke id linked code parameter) =
    (i : Tree) × IsId INTEGER i id × (ls : List Tree) × AreLinked ls linked × (cs : List Tree) × AreCoded cs code parameter
    × (t ≡ element INVOKE (i ∷ ls ++ cs))
IsWellFormed t (ResultLast id) = (i : Tree) × IsId INTEGER i id × (ts : List Tree) × AreOutcome ts × (t ≡ element RESULT_LAST (i ∷ ts))
IsWellFormed t (ResultNotLast id) = (i : Tree) × IsId INTEGER i id × (ts : List Tree) × AreOutcome ts × (t ≡ element RESULT_NOT_LAST (i ∷ ts))
IsWellFormed t (ReturnError id code) =
    (i : Tree) × IsId INTEGER i id × (cs : List Tree) × (parameter : Option Tree) × AreCoded cs code parameter × (t ≡ element RETURN_ERROR (i ∷ cs))
IsWellFormed t (Reject id side problem) =
    (r : Tree) × IsRejected r id × (t ≡ element REJECT (r ∷ Primitive (problem_tag side) (problem ∷ []) ∷ []))
IsWellFormed t (Bad id problem) = ⊥
IsWellFormed t Ignored = ⊥

-- the tree is no well-formed component
abbrev pub IsIll : Tree → Type 0
IsIll t = (c : ComponentOf Tree) → IsWellFormed t c → ⊥

-- the tree has the tag of a component that begins with an id, and these children
abbrev pub HasIdTag : Tree → List Tree → Type 0
HasIdTag t ts =
    (t ≡ element INVOKE ts) ⊎ ((t ≡ element RESULT_LAST ts) ⊎ ((t ≡ element RESULT_NOT_LAST ts) ⊎ (t ≡ element RETURN_ERROR ts)))

-- an id comes first
abbrev pub BeginsWithId : List Tree → ℤ → Type 0
BeginsWithId ts id = (i : Tree) × (rest : List Tree) × IsId INTEGER i id × (ts ≡ i ∷ rest)

-- The tree is this component. An ill-formed one is bad, with the general problem that is answered: for another tag, no
-- readable id, or any other fault after the id. An ill-formed Reject is ignored (profile).
abbrev pub IsComponent : Tree → ComponentOf Tree → Type 0
IsComponent t (Bad None problem) =
    ((problem ≡ UNRECOGNIZED_COMPONENT) × ((ts : List Tree) → HasIdTag t ts → ⊥) × ((ts : List Tree) → t ≡ element REJECT ts → ⊥))
    ⊎ ((problem ≡ MISTYPED_COMPONENT) × (ts : List Tree) × HasIdTag t ts × ((id : ℤ) → BeginsWithId ts id → ⊥))
IsComponent t (Bad (Some id) problem) =
    (problem ≡ MISTYPED_COMPONENT) × (ts : List Tree) × HasIdTag t ts × BeginsWithId ts id × IsIll t
IsComponent t Ignored = (ts : List Tree) × (t ≡ element REJECT ts) × IsIll t
IsComponent t c = IsWellFormed t c
