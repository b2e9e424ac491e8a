-- The verdict on a frame of any octets, as a relation.
use Rattle.std.specs.Prelude.{◌≡◌, ℕ, ◌≤◌, ◌⊎◌, List, length, Option, Some, None}
use Rattle.machine.specs.Octets.{AreOctets}
use Rattle.x690.specs.Tree.{Tree, levels}
use Rattle.x690.specs.Spelling.{Spells}
use Rattle.machine.specs.Received.{Apdu, Aarq, Aare, Message, Begin, Continue, End, Abort, Verdict, Discard, Read}
use Rattle.x690.specs.declared.limits.TheConstants.{MAX_OCTETS, MAX_LEVELS}
use Rattle.frames.specs.Messages as tc
use Rattle.frames.specs.Messages.{Portions, Unread}
use Rattle.frames.specs.MessageForms.{IsMessage}
use Rattle.frames.specs.DialogueForms.{IsDialogue}
use Rattle.frames.specs.Heard.{AreHeard}
use Rattle.frames.specs.Points.{points, IsSaidFirst, NoneFits}
use Rattle.frames.specs.Verdicts.{verdict_on}

-- no dialogue portion, or one that holds this APDU
abbrev pub IsPortion : {A : Type 0} → (A → Apdu) → Option Tree → Option A → Type 0
IsPortion apdu None None = Unit {0}
IsPortion apdu (Some t) (Some a) = IsDialogue t (apdu a)
IsPortion apdu None (Some a) = ⊥
IsPortion apdu (Some t) None = ⊥

-- The tree is this message: its ids, what its dialogue portion holds, and its components, however many (Q.773).
abbrev pub Reads : Tree → Message → Type 0
Reads t (Begin origin context components) =
    (p : Portions) × IsMessage t (tc.Begin origin p) × IsPortion (λ name. Aarq name) p.dialogue context × AreHeard p.components components
Reads t (Continue origin destination response components) =
    (p : Portions) × IsMessage t (tc.Continue origin destination p) × IsPortion (λ r. Aare r) p.dialogue response × AreHeard p.components components
Reads t (End destination response components) =
    (p : Portions) × IsMessage t (tc.End destination p) × IsPortion (λ r. Aare r) p.dialogue response × AreHeard p.components components
Reads t (Abort destination) = IsMessage t (tc.Abort destination)

-- What becomes of a tree: what the first point that applies says; if none does, it is a message.
abbrev pub IsJudged : Tree → Verdict → Type 0
IsJudged t v =
    ((u : Unread) × IsSaidFirst points t u × (v ≡ verdict_on u))
    ⊎ (NoneFits points t × ((m : Message) × Reads t m × (v ≡ Read m)))

-- These octets spell this tree, within the limits.
pub record IsFrame (octets : List ℕ) (t : Tree) : Type 0 where
  pub are : AreOctets octets
  pub spelled : Spells octets t
  pub short : length octets ≤ MAX_OCTETS
  pub shallow : levels t ≤ MAX_LEVELS

-- The verdict on octets: they are discarded if they spell no tree within the limits.
abbrev pub IsVerdict : List ℕ → Verdict → Type 0
IsVerdict octets v = (((t : Tree) → IsFrame octets t → ⊥) × (v ≡ Discard)) ⊎ ((t : Tree) × IsFrame octets t × IsJudged t v)
