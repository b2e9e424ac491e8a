-- What holds of frames, as the contracts of this crate's functions state it.
use Rattle.std.specs.Prelude.{◌≡◌, ℕ, ◌≤◌, ◌↔◌, List, length, Result, Some}
use Rattle.machine.specs.Octets.{AreOctets}
use Rattle.x690.specs.Tree.{Tree, levels}
use Rattle.x690.specs.Spelling.{Spells}
use Rattle.machine.specs.Received.{Code, Number, Parameter, ComponentOf, Component, Response, Apdu, Aarq, Aare, Abrt, Message, Verdict, Read}
use Rattle.machine.specs.Sent.{Rejection, SentComponent, SentMessage}
use Rattle.machine.specs.declared.numbers.TheConstants.{MAX_CONTEXT_NAME, UPDATE_LOCATION, PURGE_MS, SEND_ROUTING_INFO_FOR_SM}
use Rattle.machine.specs.Bounds.{VerdictInBounds, SentInBounds}
use Rattle.x690.specs.declared.limits.TheConstants.{MAX_OCTETS, MAX_LEVELS}
use Rattle.frames.specs.Messages.{TcMessage, Unread, message_of}
use Rattle.frames.specs.Dialogues.{dialogue_of}
use Rattle.frames.specs.DialogueForms.{IsDialogue, portion_tree}
use Rattle.frames.specs.Components.{component_of}
use Rattle.frames.specs.ComponentForms.{IsComponent}
use Rattle.frames.specs.Arguments.{parameter_of, update_of, purge_of, route_of}
use Rattle.frames.specs.ArgumentForms.{IsParameter}
use Rattle.frames.specs.Heard.{heard_of, IsHeard}
use Rattle.frames.specs.Points.{IsMessageOrNot}
use Rattle.frames.specs.Verdicts.{verdict_of}
use Rattle.frames.specs.Frames.{Reads, IsJudged, IsVerdict}
use Rattle.frames.specs.SentTrees.{reject_tree, component_tree, aarq_tree, aare_tree, abrt_tree, tree_of, octets_of_sent}
use Rattle.frames.specs.SentHeard.{reject_meant, component_meant, message_heard}
use Rattle.frames.specs.Sane.{SaneComponent, SaneRejection, SaneContent, Sane, HasIds, Readable}
use Rattle.frames_laws.specs.Reader.{read_tree, read_verdict}

-- ---- readings and forms

-- What is read of a tree, its portions unread, has its form, and what has a form is read as it.
abbrev pub MessagesAreRead : Type 0
MessagesAreRead = (t : Tree) (r : Result TcMessage Unread) → (message_of t ≡ r) ↔ IsMessageOrNot t r

abbrev pub DialoguesAreRead : Type 0
DialoguesAreRead = (t : Tree) (apdu : Apdu) → (dialogue_of t ≡ Some apdu) ↔ IsDialogue t apdu

abbrev pub ComponentsAreRead : Type 0
ComponentsAreRead = (t : Tree) (c : ComponentOf Tree) → (component_of t ≡ c) ↔ IsComponent t c

-- The same of each parameter, by the code of its Invoke.
pub record ParametersAreRead : Type 0 where
  pub update : (t : Tree) (p : Parameter) → (update_of t ≡ p) ↔ IsParameter (Number UPDATE_LOCATION) t p
  pub purge : (t : Tree) (p : Parameter) → (purge_of t ≡ p) ↔ IsParameter (Number PURGE_MS) t p
  pub route : (t : Tree) (p : Parameter) → (route_of t ≡ p) ↔ IsParameter (Number SEND_ROUTING_INFO_FOR_SM) t p
  pub any : (code : Code) (t : Tree) (p : Parameter) → (parameter_of code t ≡ p) ↔ IsParameter code t p

abbrev pub ComponentsAreHeard : Type 0
ComponentsAreHeard = (t : Tree) (c : Component) → (heard_of t ≡ c) ↔ IsHeard t c

-- The verdict that is read of a tree is the one by the points, and there is no other.
abbrev pub TreesAreJudged : Type 0
TreesAreJudged = (t : Tree) (v : Verdict) → (verdict_of t ≡ v) ↔ IsJudged t v

-- A tree is at most one message.
abbrev pub OneMessage : Type 0
OneMessage = (t : Tree) (m n : Message) → Reads t m → Reads t n → m ≡ n

-- ---- octets

-- The reader of octets reads the tree that they spell, and where it reads none they spell none (X.690, 8.1).
abbrev pub TreesAreRead : Type 0
TreesAreRead = (octets : List ℕ) (t : Tree) → (read_tree octets ≡ Some t) ↔ Spells octets t

-- The verdict that is read of octets, whatever they are, is the one that they have.
abbrev pub VerdictsAreRead : Type 0
VerdictsAreRead = (octets : List ℕ) (v : Verdict) → (read_verdict octets ≡ v) ↔ IsVerdict octets v

-- Octets, whatever they are, have exactly one verdict.
abbrev pub OneVerdict : Type 0
OneVerdict = (octets : List ℕ) → (v : Verdict) × IsVerdict octets v × ((w : Verdict) → IsVerdict octets w → w ≡ v)

-- What octets read to is within the bounds of the machine: ids of one to four octets, invoke ids from -128 to 127, short
-- names, few components, and arguments of digits that are of their operation.
abbrev pub VerdictsAreWithinBounds : Type 0
VerdictsAreWithinBounds = (octets : List ℕ) (v : Verdict) → IsVerdict octets v → VerdictInBounds v

-- ---- what is sent

-- A component that is sent has the form of the component that is meant.
pub record SentComponentsHaveForms : Type 0 where
  pub own : (c : SentComponent) → SaneComponent c → IsComponent (component_tree c) (component_meant c)
  pub rejects : (r : Rejection) → SaneRejection r → IsComponent (reject_tree r) (reject_meant r)

-- A dialogue portion that is sent holds the APDU that is meant, also in an Abort.
pub record SentPortionsHaveForms : Type 0 where
  pub request : (name : List ℕ) → 1 ≤ length name → length name ≤ MAX_CONTEXT_NAME → IsDialogue (portion_tree (aarq_tree name)) (Aarq name)
  pub response : (r : Response) → 1 ≤ length r.context → length r.context ≤ MAX_CONTEXT_NAME
      → IsDialogue (portion_tree (aare_tree r.context r.result r.diagnostic)) (Aare r)
  pub abort : (source : ℕ) → source ≤ 1 → IsDialogue (portion_tree (abrt_tree source)) (Abrt source)

-- The tree that is sent is the message that is meant, however many its components.
abbrev pub SentIsMeant : Type 0
SentIsMeant = (m : SentMessage) → SaneContent m → HasIds m → Reads (tree_of m) (message_heard m)

-- What the machine sends within its bounds may be sent, so the laws of what is sent apply to it.
abbrev pub SentIsSane : Type 0
SentIsSane = (m : SentMessage) → SentInBounds m → Sane m × HasIds m

-- What is sent is octets.
abbrev pub SentIsOctets : Type 0
SentIsOctets = (m : SentMessage) → SaneContent m → AreOctets (octets_of_sent m)

-- A tree that is sent has few levels.
abbrev pub SentIsShallow : Type 0
SentIsShallow = (m : SentMessage) → SaneContent m → levels (tree_of m) ≤ MAX_LEVELS

-- What the machine sends within its bounds is a short frame.
abbrev pub SentIsShort : Type 0
SentIsShort = (m : SentMessage) → SentInBounds m → length (octets_of_sent m) ≤ MAX_OCTETS

-- Two different messages are never sent as the same octets.
abbrev pub OctetsTell : Type 0
OctetsTell = (m n : SentMessage) → Sane m → Sane n → octets_of_sent m ≡ octets_of_sent n → m ≡ n

-- What is sent within the limits is read as what is meant.
abbrev pub SentIsRead : Type 0
SentIsRead = (m : SentMessage) → Readable m → IsVerdict (octets_of_sent m) (Read (message_heard m))
