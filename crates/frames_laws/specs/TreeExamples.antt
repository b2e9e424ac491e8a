-- What trees of messages and of components read to, without their octets; under which tags an element is read, and what octets with an
-- indefinite length spell.
use Rattle.std.specs.Prelude.{◌≡◌, ℕ, true, false, pos, List, [], ◌∷◌, Option, Some, None}
use Rattle.x690.specs.declared.Class.TheVariants.{Universal, Application, ContextSpecific, Private}
use Rattle.x690.specs.declared.Tag.{Tag}
use Rattle.x690.specs.Examples.{tag_with}
use Rattle.x690.specs.Reading.{octets_of}
use Rattle.x690.specs.Tree.{Tree, Primitive, element}
use Rattle.machine.specs.Received.{Abort, Begin, Bad, Discard, Ignored, OfError, OfResult, ComponentOf, Read, Refuse, Reject, ResultLast, ResultNotLast}
use Rattle.frames.specs.declared.tags.TheConstants.{INTEGER, OCTET_STRING, SEQUENCE, BEGIN, ABORT, ORIGIN, DESTINATION, ABORT_CAUSE, DIALOGUE_PORTION, COMPONENT_PORTION, RESULT_LAST, RESULT_NOT_LAST, REJECT, RESULT_PROBLEM, ERROR_PROBLEM}
use Rattle.frames.specs.Components.{component_of}
use Rattle.frames.specs.Verdicts.{verdict_of}
use Rattle.frames_laws.specs.Reader.{read_tree, read_verdict}
use Rattle.frames_laws.specs.Written.{hex}

abbrev pub abort_with : List Tree → Tree
abort_with reason = element ABORT (Primitive DESTINATION (hex "01 00 00 01") ∷ reason)

abbrev pub begin_with : List Tree → Tree
begin_with portions = element BEGIN (Primitive ORIGIN (hex "00 00 00 0B") ∷ portions)

-- After an Abort's id a cause or a dialogue portion may follow, whatever it holds. A dialogue portion of a Begin must be readable.
pub record MessagesRead : Type 0 where
  pub abort : verdict_of (abort_with []) ≡ Read (Abort (hex "01 00 00 01"))
  pub abort_and_cause : verdict_of (abort_with (Primitive ABORT_CAUSE [] ∷ [])) ≡ Read (Abort (hex "01 00 00 01"))
  pub abort_and_portion : verdict_of (abort_with (element DIALOGUE_PORTION [] ∷ [])) ≡ Read (Abort (hex "01 00 00 01"))
  pub abort_and_components : verdict_of (abort_with (element COMPONENT_PORTION [] ∷ [])) ≡ Discard
  pub begin : verdict_of (begin_with []) ≡ Read (Begin (hex "00 00 00 0B") None [])
  pub unreadable_portion : verdict_of (begin_with (element DIALOGUE_PORTION [] ∷ [])) ≡ Refuse (hex "00 00 00 0B") 3

abbrev pub id_1 : Tree
id_1 = Primitive INTEGER (1 ∷ [])

-- a Reject with the problem 0 under this tag
abbrev pub reject_under : Tag → Tree
reject_under tag = element REJECT (id_1 ∷ Primitive tag (0 ∷ []) ∷ [])

-- A result, a part of one, and Rejects. An ill-formed Reject is ignored, an ill-formed result is bad.
pub record ComponentsRead : Type 0 where
  pub result : component_of (element RESULT_LAST (id_1 ∷ [])) ≡ ResultLast (pos 1)
  pub part_of_a_result : component_of (element RESULT_NOT_LAST (id_1 ∷ [])) ≡ ResultNotLast (pos 1)
  pub ill_formed_result : component_of (element RESULT_LAST (id_1 ∷ element SEQUENCE [] ∷ [])) ≡ Bad (Some (pos 1)) 1
  pub reject_of_a_result : component_of (reject_under RESULT_PROBLEM) ≡ Reject (Some (pos 1)) OfResult 0
  pub reject_of_an_error : component_of (reject_under ERROR_PROBLEM) ≡ Reject (Some (pos 1)) OfError 0
  pub ill_formed_reject : component_of (element REJECT (id_1 ∷ [])) ≡ Ignored

-- what is read under the first tag of an element with the second, whose contents are the octet 05
abbrev pub read_under : Tag → Tag → Option (List ℕ)
read_under tag own = octets_of tag (Primitive own (5 ∷ []))

-- An element of each class is read under its own tag, and under no tag of another class, kind or number (X.690, 8.1.2).
pub record ReadUnderItsTag : Type 0 where
  pub universal : read_under (tag_with Universal false 2) (tag_with Universal false 2) ≡ Some (5 ∷ [])
  pub application : read_under (tag_with Application false 2) (tag_with Application false 2) ≡ Some (5 ∷ [])
  pub context_specific : read_under (tag_with ContextSpecific false 2) (tag_with ContextSpecific false 2) ≡ Some (5 ∷ [])
  pub private : read_under (tag_with Private false 2) (tag_with Private false 2) ≡ Some (5 ∷ [])
  pub other_class : read_under (tag_with Private false 2) (tag_with ContextSpecific false 2) ≡ None
  pub other_kind : read_under (tag_with Private true 2) (tag_with Private false 2) ≡ None
  pub other_number : read_under (tag_with Private false 3) (tag_with Private false 2) ≡ None

-- The length octet 80 begins contents that end-of-contents octets end. A primitive element has none, so an Abort whose cause has this length
-- is discarded (X.690, 8.1.3.2 and 8.1.3.6).
pub record IndefiniteLengths : Type 0 where
  pub constructed : read_tree (hex "30 80 04 00 00 00") ≡ Some (element SEQUENCE (Primitive OCTET_STRING [] ∷ []))
  pub of_length_0 : read_tree (hex "04 00") ≡ Some (Primitive OCTET_STRING [])
  pub primitive : read_tree (hex "04 80") ≡ None
  pub primitive_and_end : read_tree (hex "04 80 00 00") ≡ None
  pub abort : read_verdict (hex "67 08 49 04 01 00 00 01 4A 00") ≡ Read (Abort (hex "01 00 00 01"))
  pub abort_of_that_length : read_verdict (hex "67 08 49 04 01 00 00 01 4A 80") ≡ Discard
