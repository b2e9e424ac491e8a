-- What keeps a tree from being read as a message, point by point (profile). The first point that applies decides.
use Rattle.std.specs.Prelude.{◌≡◌, ℕ, ◌<◌, ◌⊎◌, List, [], ◌∷◌, ◌++◌, length, Option, Some, None, Result, Ok, Err}
use Rattle.machine.specs.Octets.{HasIdLength}
use Rattle.x690.specs.Tree.{Tree, Primitive}
use Rattle.x690.specs.Reading.{tag_of, children}
use Rattle.machine.specs.Received.{Apdu, Aarq, Aare}
use Rattle.frames.specs.declared.tags.TheConstants.{UNIDIRECTIONAL, BEGIN, END, CONTINUE, ABORT, ORIGIN, DESTINATION}
use Rattle.machine.specs.declared.numbers.TheConstants.{MAX_COMPONENTS, RESOURCE_LIMITATION}
use Rattle.frames.specs.declared.numbers.TheConstants.{UNRECOGNIZED_MESSAGE_TYPE, BADLY_FORMATTED_TRANSACTION_PORTION, INCORRECT_TRANSACTION_PORTION}
use Rattle.frames.specs.Messages.{TcMessage, Begin, Continue, End, Unread, Discarded, Refused, dialogue_in, components_in}
use Rattle.frames.specs.MessageForms.{IsMessage}
use Rattle.frames.specs.DialogueForms.{IsDialogue}

-- the first child is an originating transaction id
pub record HasOrigin (t : Tree) (origin : List ℕ) : Type 0 where
  pub rest : List Tree
  pub fits : HasIdLength origin
  pub spelled : children t ≡ Primitive ORIGIN origin ∷ rest

-- and the second a destination transaction id
pub record HasOriginAndDestination (t : Tree) (origin destination : List ℕ) : Type 0 where
  pub rest : List Tree
  pub origin_fits : HasIdLength origin
  pub destination_fits : HasIdLength destination
  pub spelled : children t ≡ Primitive ORIGIN origin ∷ Primitive DESTINATION destination ∷ rest

abbrev pub IsBeginOrContinue : Tree → Type 0
IsBeginOrContinue t = (tag_of t ≡ BEGIN) ⊎ (tag_of t ≡ CONTINUE)

-- a Begin's dialogue portion must hold an AARQ, that of a Continue or an End an AARE
abbrev pub IsWanted : TcMessage → Apdu → Type 0
IsWanted (Begin origin portions) (Aarq context) = Unit {0}
IsWanted (Continue origin destination portions) (Aare response) = Unit {0}
IsWanted (End destination portions) (Aare response) = Unit {0}
IsWanted _ _ = ⊥

pub data Point : Type 0 where
  IsUnidirectional : Point
  IsAnotherMessage : Point  -- a tag of no message
  LacksOrigin : Point  -- a Begin or a Continue
  LacksDestination : Point  -- a Continue
  BreaksItsForm : Point  -- an unexpected child in some place
  HasUnreadablePortion : Point  -- a dialogue portion that holds no APDU, or the wrong one
  HasTooManyComponents : Point

-- When each point applies.
abbrev pub Fits : Point → Tree → Type 0
Fits IsUnidirectional t = tag_of t ≡ UNIDIRECTIONAL
Fits IsAnotherMessage t = (tag_of t ≡ BEGIN → ⊥) × (tag_of t ≡ CONTINUE → ⊥) × (tag_of t ≡ END → ⊥) × (tag_of t ≡ ABORT → ⊥)
Fits LacksOrigin t = IsBeginOrContinue t × ((origin : List ℕ) → HasOrigin t origin → ⊥)
Fits LacksDestination t = (tag_of t ≡ CONTINUE) × ((origin destination : List ℕ) → HasOriginAndDestination t origin destination → ⊥)
Fits BreaksItsForm t = (m : TcMessage) → IsMessage t m → ⊥
Fits HasUnreadablePortion t =
    (m : TcMessage) × (portion : Tree) × IsMessage t m × (dialogue_in m ≡ Some portion) × ((apdu : Apdu) → IsWanted m apdu → IsDialogue portion apdu → ⊥)
Fits HasTooManyComponents t = (m : TcMessage) × IsMessage t m × (MAX_COMPONENTS < length (components_in m))

-- The P-Abort cause of the Abort that answers it, if any.
abbrev pub cause_of : Point → Option ℕ
cause_of IsUnidirectional = None
cause_of IsAnotherMessage = Some UNRECOGNIZED_MESSAGE_TYPE
cause_of LacksOrigin = None
cause_of LacksDestination = Some BADLY_FORMATTED_TRANSACTION_PORTION
cause_of BreaksItsForm = Some INCORRECT_TRANSACTION_PORTION
cause_of HasUnreadablePortion = Some INCORRECT_TRANSACTION_PORTION
cause_of HasTooManyComponents = Some RESOURCE_LIMITATION

-- The order: first what is found without reading a portion, then the portions.
abbrev pub message_points : List Point
message_points = IsUnidirectional ∷ IsAnotherMessage ∷ LacksOrigin ∷ LacksDestination ∷ BreaksItsForm ∷ []

abbrev pub points : List Point
points = message_points ++ (HasUnreadablePortion ∷ HasTooManyComponents ∷ [])

-- An Abort is sent to an originating id that comes first. An End and an Abort are never answered.
abbrev pub MayBeAnswered : Tree → List ℕ → Type 0
MayBeAnswered t origin = HasOrigin t origin × (tag_of t ≡ END → ⊥) × (tag_of t ≡ ABORT → ⊥)

-- what becomes of a tree with this cause
abbrev pub IsAnswer : Tree → Option ℕ → Unread → Type 0
IsAnswer t None u = u ≡ Discarded
IsAnswer t (Some cause) u =
    ((origin : List ℕ) × MayBeAnswered t origin × (u ≡ Refused origin cause))
    ⊎ (((origin : List ℕ) → MayBeAnswered t origin → ⊥) × (u ≡ Discarded))

-- The first of these points that applies says this.
abbrev pub IsSaidFirst : List Point → Tree → Unread → Type 0
IsSaidFirst [] t u = ⊥
IsSaidFirst (point ∷ later) t u = (Fits point t × IsAnswer t (cause_of point) u) ⊎ ((Fits point t → ⊥) × IsSaidFirst later t u)

abbrev pub NoneFits : List Point → Tree → Type 0
NoneFits [] t = Unit {0}
NoneFits (point ∷ later) t = (Fits point t → ⊥) × NoneFits later t

-- What a tree is with its portions unread: a message, or what the first point that applies says.
abbrev pub IsMessageOrNot : Tree → Result TcMessage Unread → Type 0
IsMessageOrNot t (Ok m) = IsMessage t m
IsMessageOrNot t (Err u) = IsSaidFirst message_points t u
