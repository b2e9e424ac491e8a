-- Reading a tree as a message with its portions unread, or what becomes of a frame that is none (Q.773, transaction portion).
use Rattle.std.specs.Prelude.{ℕ, List, [], ◌∷◌, Option, Some, None, Result, Ok, Err, Bool, true, false, if◌then◌else◌, ◌||◌, option_and_then, is_some, unwrap_or}
use Rattle.std.specs.Option.{ok_or}
use Rattle.x690.specs.declared.Tag.{Tag}
use Rattle.x690.specs.Tree.{Tree}
use Rattle.x690.specs.Reading.{octets_of, children_of, children, tagged}
use Rattle.x690.specs.Elements.{first, optional, no_more}
use Rattle.hlr_types.specs.Identities.{remote_id_of}
use Rattle.frames.specs.declared.tags.TheConstants.{UNIDIRECTIONAL, BEGIN, END, CONTINUE, ABORT, ORIGIN, DESTINATION, ABORT_CAUSE, DIALOGUE_PORTION, COMPONENT_PORTION}
use Rattle.frames.specs.declared.numbers.TheConstants.{UNRECOGNIZED_MESSAGE_TYPE, BADLY_FORMATTED_TRANSACTION_PORTION, INCORRECT_TRANSACTION_PORTION}
use Rattle.frames.specs.Choices.{if_under}

-- The dialogue portion, and the elements of the component portion: none if there is no such portion.
pub record Portions : Type 0 where
  pub dialogue : Option Tree
  pub components : List Tree

-- A message with its portions as trees. An Abort's content is not kept.
pub data TcMessage : Type 0 where
  Begin : (origin : List ℕ) → Portions → TcMessage
  Continue : (origin destination : List ℕ) → Portions → TcMessage
  End : (destination : List ℕ) → Portions → TcMessage
  Abort : (destination : List ℕ) → TcMessage

-- What becomes of a frame that is no message: it is discarded, or answered with an Abort of this cause.
pub data Unread : Type 0 where
  Discarded : Unread
  Refused : (origin : List ℕ) → (cause : ℕ) → Unread

infixl 10 ◌>>=◌
abbrev pub ◌>>=◌ : {A B E : Type 0} → Result A E → (A → Result B E) → Result B E
(Ok a) >>= f = f a
(Err e) >>= f = Err e

-- a transaction id of 1 to 4 octets
abbrev pub transaction_id_under : Tag → Tree → Option (List ℕ)
transaction_id_under tag t = option_and_then remote_id_of (octets_of tag t)

-- an optional dialogue portion, an optional component portion, and no more; an empty component portion counts as none
abbrev pub portions_of : List Tree → Option Portions
portions_of ts =
    let dialogue = optional (tagged DIALOGUE_PORTION) ts in
    let components = optional (children_of COMPONENT_PORTION) dialogue.1 in
    no_more (record { dialogue = dialogue.0; components = unwrap_or components.0 [] }) components.1

unfoldable pub begin_of : List Tree → Result TcMessage Unread
begin_of ts = do
  origin ← ok_or (first (transaction_id_under ORIGIN) ts) Discarded
  portions ← ok_or (portions_of origin.1) (Refused origin.0 INCORRECT_TRANSACTION_PORTION)
  Ok (Begin origin.0 portions)

unfoldable pub continue_of : List Tree → Result TcMessage Unread
continue_of ts = do
  origin ← ok_or (first (transaction_id_under ORIGIN) ts) Discarded
  destination ← ok_or (first (transaction_id_under DESTINATION) origin.1) (Refused origin.0 BADLY_FORMATTED_TRANSACTION_PORTION)
  portions ← ok_or (portions_of destination.1) (Refused origin.0 INCORRECT_TRANSACTION_PORTION)
  Ok (Continue origin.0 destination.0 portions)

unfoldable pub end_of : List Tree → Result TcMessage Unread
end_of ts = do
  destination ← ok_or (first (transaction_id_under DESTINATION) ts) Discarded
  portions ← ok_or (portions_of destination.1) Discarded
  Ok (End destination.0 portions)

-- after an Abort's destination id a cause or a dialogue portion may follow; neither is read
abbrev pub may_end_abort : List Tree → Bool
may_end_abort [] = true
may_end_abort (t ∷ []) = is_some (tagged ABORT_CAUSE t) || is_some (tagged DIALOGUE_PORTION t)
may_end_abort (t ∷ u ∷ ts) = false

unfoldable pub abort_of : List Tree → Result TcMessage Unread
abort_of ts = do
  destination ← ok_or (first (transaction_id_under DESTINATION) ts) Discarded
  if may_end_abort destination.1 then Ok (Abort destination.0) else Err Discarded

-- another tag is answered if an originating id comes first
abbrev pub unrecognized : Option (List ℕ × List Tree) → Result TcMessage Unread
unrecognized None = Err Discarded
unrecognized (Some origin) = Err (Refused origin.0 UNRECOGNIZED_MESSAGE_TYPE)

-- the message that a tree is
unfoldable pub message_of : Tree → Result TcMessage Unread
message_of t =
    if_under (children_of BEGIN t) begin_of
    (if_under (children_of CONTINUE t) continue_of
    (if_under (children_of END t) end_of
    (if_under (children_of ABORT t) abort_of
    (if_under (children_of UNIDIRECTIONAL t) (λ ts. Err Discarded)
    (unrecognized (first (transaction_id_under ORIGIN) (children t)))))))

-- the dialogue portion and the components of a message
abbrev pub dialogue_in : TcMessage → Option Tree
dialogue_in (Begin origin portions) = portions.dialogue
dialogue_in (Continue origin destination portions) = portions.dialogue
dialogue_in (End destination portions) = portions.dialogue
dialogue_in (Abort destination) = None

abbrev pub components_in : TcMessage → List Tree
components_in (Begin origin portions) = portions.components
components_in (Continue origin destination portions) = portions.components
components_in (End destination portions) = portions.components
components_in (Abort destination) = []
