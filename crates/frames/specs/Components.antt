-- Reading a tree as a component (Q.773, component portion). What becomes of ill-formed components is the profile's choice
-- (profile).
use Rattle.std.specs.Prelude.{ℕ, ℤ, List, [], ◌∷◌, Option, Some, None, option_map, option_and_then, unwrap_or, map}
use Rattle.std.specs.Int.{w8, cast_signed}
use Rattle.x690.specs.declared.Tag.{Tag}
use Rattle.x690.specs.Tree.{Tree}
use Rattle.x690.specs.Reading.{octets_of, octet_of, children_of}
use Rattle.x690.specs.Elements.{first, optional, at_most_one}
use Rattle.machine.specs.Received.{Code, Number, Other, Side, General, OfInvoke, OfResult, OfError, ComponentOf, Invoke, ResultLast, ResultNotLast, ReturnError, Reject, Bad, Ignored}
use Rattle.frames.specs.declared.tags.TheConstants.{INTEGER, NULL, OBJECT_IDENTIFIER, SEQUENCE, LINKED_ID, GENERAL_PROBLEM, INVOKE_PROBLEM, RESULT_PROBLEM, ERROR_PROBLEM, INVOKE, RESULT_LAST, RETURN_ERROR, REJECT, RESULT_NOT_LAST}
use Rattle.frames.specs.declared.numbers.TheConstants.{UNRECOGNIZED_COMPONENT, MISTYPED_COMPONENT}
use Rattle.frames.specs.Choices.{◌>>=◌, or, if_under}

-- an invoke id or a linked id: one octet, a number from -128 to 127
abbrev pub id_under : Tag → Tree → Option ℤ
id_under tag t = option_map (λ octet. cast_signed w8 octet) (octet_of tag t)

-- an operation's or an error's code: a nonempty INTEGER or OBJECT IDENTIFIER; an INTEGER of one octet is a number
abbrev pub local_code : List ℕ → Option Code
local_code [] = None
local_code (n ∷ []) = Some (Number n)
local_code (n ∷ m ∷ rest) = Some Other

abbrev pub global_code : List ℕ → Option Code
global_code [] = None
global_code (n ∷ rest) = Some Other

abbrev pub code_of : Tree → Option Code
code_of t = or (option_and_then local_code (octets_of INTEGER t)) (option_and_then global_code (octets_of OBJECT_IDENTIFIER t))

-- a code, and at most one parameter
unfoldable pub coded : List Tree → Option (Code × Option Tree)
coded ts = do
  code ← first code_of ts
  parameter ← at_most_one code.1
  Some (code.0, parameter)

-- After its id an Invoke has an optional linked id, a code, and at most one parameter.
unfoldable pub invoke : ℤ → List Tree → Option (ComponentOf Tree)
invoke id ts = do
  let linked = optional (id_under LINKED_ID) ts
  body ← coded linked.1
  Some (Invoke id linked.0 body.0 body.1)

-- A result has nothing after its id, or a SEQUENCE of a code and at most one parameter. Neither is kept.
unfoldable pub outcome : ComponentOf Tree → List Tree → Option (ComponentOf Tree)
outcome made [] = Some made
outcome made (t ∷ []) = do
  ts ← children_of SEQUENCE t
  body ← coded ts
  Some made
outcome made (t ∷ u ∷ ts) = None

-- An error has a code and at most one parameter, which is not kept.
unfoldable pub error : ℤ → List Tree → Option (ComponentOf Tree)
error id ts = do
  body ← coded ts
  Some (ReturnError id body.0)

-- the problem of a Reject: an octet under one of four tags
abbrev pub problem_under : Tag → Side → Tree → Option (Side × ℕ)
problem_under tag side t = option_map (λ octet. (side, octet)) (octet_of tag t)

abbrev pub problem_of : Tree → Option (Side × ℕ)
problem_of t =
    or (problem_under GENERAL_PROBLEM General t)
    (or (problem_under INVOKE_PROBLEM OfInvoke t)
    (or (problem_under RESULT_PROBLEM OfResult t) (problem_under ERROR_PROBLEM OfError t)))

-- a NULL in the place of a Reject's id
abbrev pub open_id : List ℕ → Option (Option ℤ)
open_id [] = Some None
open_id (n ∷ rest) = None

abbrev pub rejected_id : Tree → Option (Option ℤ)
rejected_id t = or (option_map Some (id_under INTEGER t)) (option_and_then open_id (octets_of NULL t))

-- A Reject is an id or a NULL, and a problem.
unfoldable pub reject : List Tree → Option (ComponentOf Tree)
reject [] = None
reject (t ∷ []) = None
reject (t ∷ u ∷ []) = do
  id ← rejected_id t
  problem ← problem_of u
  Some (Reject id problem.0 problem.1)
reject (t ∷ u ∷ v ∷ ts) = None

-- The id comes first. Without a readable id, or with any other fault after it, the component is bad.
abbrev pub behind_id : (ℤ → List Tree → Option (ComponentOf Tree)) → Option (ℤ × List Tree) → ComponentOf Tree
behind_id body None = Bad None MISTYPED_COMPONENT
behind_id body (Some (id, ts)) = unwrap_or (body id ts) (Bad (Some id) MISTYPED_COMPONENT)

abbrev pub identified : (ℤ → List Tree → Option (ComponentOf Tree)) → List Tree → ComponentOf Tree
identified body ts = behind_id body (first (id_under INTEGER) ts)

-- an ill-formed Reject is ignored, whatever its fault
abbrev pub reject_or_ignored : List Tree → ComponentOf Tree
reject_or_ignored ts = unwrap_or (reject ts) Ignored

-- The component that a tree is.
unfoldable pub component_of : Tree → ComponentOf Tree
component_of t =
    if_under (children_of INVOKE t) (identified invoke)
    (if_under (children_of RESULT_LAST t) (identified (λ id. outcome (ResultLast id)))
    (if_under (children_of RESULT_NOT_LAST t) (identified (λ id. outcome (ResultNotLast id)))
    (if_under (children_of RETURN_ERROR t) (identified error)
    (if_under (children_of REJECT t) reject_or_ignored
    (Bad None UNRECOGNIZED_COMPONENT)))))

abbrev pub components_of : List Tree → List (ComponentOf Tree)
components_of ts = map component_of ts
