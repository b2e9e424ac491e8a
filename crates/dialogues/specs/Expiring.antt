-- The invocation that an expiry handles (Q.774).
use Rattle.std.specs.Prelude.{◌≡◌, ℕ, [], Option, Some, None}
use Rattle.machine.specs.State.{Dialogue, State}
use Rattle.machine.specs.Turns.{Turn, Dismissed, Expires}
use Rattle.csl.specs.declared.offer.Due.{Due}
use Rattle.csl.specs.Seen.{was}
use Rattle.dialogues.specs.Dialogues.{OpenDialogues, dialogues_of}

-- The state has these open dialogues, and their shard's clock is `now`.
pub record HasDialogues (S : State) (d : OpenDialogues) (now : ℕ) : Type 0 where
  pub dialogues : S.dialogues ≡ dialogues_of d
  pub clock : S.clocks d.shard ≡ now

-- The turn of the expiry of an invocation of this dialogue.
abbrev pub expiry_of : Option Dialogue → Due → Turn
expiry_of None due = Dismissed []
expiry_of (Some dialogue) due = Expires due.id dialogue due.invoke (was due.was)

-- The same, if something is due.
abbrev pub expiry_turn : OpenDialogues → Option Due → Turn
expiry_turn d None = Dismissed []
expiry_turn d (Some due) = expiry_of (dialogues_of d due.id) due
