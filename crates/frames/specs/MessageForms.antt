-- The form of each message (Q.773, transaction portion): the elements in order, as a relation between a tree and a message.
-- A transaction id has one to four octets; that they are octets is a fact of the whole tree.
use Rattle.std.specs.Prelude.{◌≡◌, List, [], ◌∷◌, ◌++◌, Option, Some, None, ◌⊎◌}
use Rattle.machine.specs.Octets.{HasIdLength}
use Rattle.x690.specs.Tree.{Tree, Primitive, element}
use Rattle.x690.specs.Reading.{tag_of}
use Rattle.frames.specs.declared.tags.TheConstants.{BEGIN, END, CONTINUE, ABORT, ORIGIN, DESTINATION, ABORT_CAUSE, DIALOGUE_PORTION, COMPONENT_PORTION}
use Rattle.frames.specs.Messages.{Portions, TcMessage, Begin, Continue, End, Abort}

-- an optional dialogue portion, whatever it holds
abbrev pub AreDialogue : List Tree → Option Tree → Type 0
AreDialogue ts None = ts ≡ []
AreDialogue ts (Some t) = (ts ≡ t ∷ []) × (tag_of t ≡ DIALOGUE_PORTION)

-- an optional component portion; an empty one counts as none (profile)
abbrev pub AreComponents : List Tree → List Tree → Type 0
AreComponents ts components = ((ts ≡ []) × (components ≡ [])) ⊎ (ts ≡ element COMPONENT_PORTION components ∷ [])

pub record ArePortions (ts : List Tree) (portions : Portions) : Type 0 where
  pub ds : List Tree
  pub cs : List Tree
  pub whole : ts ≡ ds ++ cs
  pub dialogue : AreDialogue ds portions.dialogue
  pub components : AreComponents cs portions.components

-- nothing, a cause, or a dialogue portion, whatever it holds
abbrev pub AreReason : List Tree → Type 0
AreReason ts = (ts ≡ []) ⊎ ((t : Tree) × (ts ≡ t ∷ []) × ((tag_of t ≡ ABORT_CAUSE) ⊎ (tag_of t ≡ DIALOGUE_PORTION)))

-- The tree is this message.
abbrev pub IsMessage : Tree → TcMessage → Type 0
IsMessage t (Begin origin portions) =
    (ts : List Tree) × ArePortions ts portions × HasIdLength origin × (t ≡ element BEGIN (Primitive ORIGIN origin ∷ ts))
IsMessage t (Continue origin destination portions) =
    (ts : List Tree) × ArePortions ts portions × HasIdLength origin × HasIdLength destination
    × (t ≡ element CONTINUE (Primitive ORIGIN origin ∷ Primitive DESTINATION destination ∷ ts))
IsMessage t (End destination portions) =
    (ts : List Tree) × ArePortions ts portions × HasIdLength destination × (t ≡ element END (Primitive DESTINATION destination ∷ ts))
IsMessage t (Abort destination) =
    (ts : List Tree) × AreReason ts × HasIdLength destination × (t ≡ element ABORT (Primitive DESTINATION destination ∷ ts))
