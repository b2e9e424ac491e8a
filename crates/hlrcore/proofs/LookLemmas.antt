-- Which open dialogue a received message is for.
use Rattle.std.proofs.Common.{◌≡◌, ◌≢◌, ℕ, List, [], Option, Some, None, refl, sym, ap, ◌∙◌}
use Rattle.machine.specs.declared.numbers.TheConstants.{UNRECOGNIZED_TRANSACTION_ID}
use Rattle.machine.specs.Outcome.{send}
use Rattle.machine.specs.Received.{Component}
use Rattle.machine.specs.Sent.{Cause, SentAbort}
use Rattle.machine.specs.State.{Dialogue, Transaction}
use Rattle.machine.specs.Transactions.{ContinueComes, transact}
use Rattle.machine.specs.Turns.{Continues, Dismissed, close_at, continue_at, continue_for, for_it}
use Rattle.tsl.specs.declared.received.Head.{Head}
use Rattle.tsl.specs.declared.received.Head.TheVariants.{Continue, End, Abort}
use Rattle.tsl.specs.declared.received.Received.TheVariants.{For}
use Rattle.tsl.specs.Received.{destination_of}
use Rattle.dialogues.specs.Dialogues.{OpenDialogues, dialogues_of}
use Rattle.dialogues.specs.Looking.{looked, told_of}
use Rattle.hlrcore.specs.declared.opened.Opened.{Opened}
use Rattle.hlrcore.specs.OpenOnes.{IsFor, IsOpenAt}

-- It is for the one with its destination id, if one is open.
pub for_destination : (from id : List ℕ) (head : Head) (o : Option Dialogue) → looked from head o ≡ For id → id ≡ destination_of head
for_destination from id (Continue origin destination) None e = absurd cc
for_destination from id (Continue origin destination) (Some d) e = told (for_it (transact (Some d.transaction) (ContinueComes from origin))) e
  where
    told : (t : Option Transaction) → told_of origin destination t ≡ For id → id ≡ destination
    told None e = absurd cc
    told (Some t) e = cc
for_destination from id (End destination) None e = absurd cc
for_destination from id (End destination) (Some d) e = cc
for_destination from id (Abort destination) None e = absurd cc
for_destination from id (Abort destination) (Some d) e = cc

pub for_none : (from id : List ℕ) (head : Head) → looked from head None ≡ For id → ⊥
for_none from id (Continue origin destination) e = absurd cc
for_none from id (End destination) e = absurd cc
for_none from id (Abort destination) e = absurd cc

-- The dialogue that is open under the id returned is the one that the message is for.
pub found_for : (told_in d : OpenDialogues) (head : Head) (id : List ℕ) (found : Option Opened) → told_in ≡ d
    → ((from : List ℕ) → For id ≡ looked from head (dialogues_of told_in (destination_of head))) → IsOpenAt d id found → IsFor d head found
found_for told_in d head id found same told open_at =
    let dest = destination_of head in
    let here : (from : List ℕ) → looked from head (dialogues_of d dest) ≡ For id =
    λ from. sym (told from ∙ ap (λ (x : OpenDialogues). looked from head (dialogues_of x dest)) same) in
    by found (for_destination [] id head (dialogues_of d dest) (here [])) here open_at
  where
    by : (f : Option Opened) → id ≡ destination_of head → ((from : List ℕ) → looked from head (dialogues_of d (destination_of head)) ≡ For id)
        → IsOpenAt d id f → IsFor d head f
    by None is here none = λ from e. for_none from (destination_of head) head (sym (ap (looked from head) (ap (dialogues_of d) (sym is) ∙ none)) ∙ e)
    by (Some o) is here opened = record { at = opened.0 ∙ is; opened = opened.1; told = λ from. here from ∙ (λ i. For (is i)) }

-- ---- what a message turns to

pub close_for_none : (from destination : List ℕ) (o : Option Dialogue) → looked from (End destination) o ≢ For destination
    → close_at destination o ≡ Dismissed []
close_for_none from destination None h = refl
close_for_none from destination (Some d) h = absurd (h refl)

pub continue_for_none : (from origin destination : List ℕ) (components : List Component) (o : Option Dialogue)
    → looked from (Continue origin destination) o ≢ For destination
    → continue_at from origin destination components o ≡ Dismissed (send from (SentAbort origin (Cause UNRECOGNIZED_TRANSACTION_ID)))
continue_for_none from origin destination components None h = refl
continue_for_none from origin destination components (Some d) h = by (for_it (transact (Some d.transaction) (ContinueComes from origin))) h
  where
    by : (t : Option Transaction) → told_of origin destination t ≢ For destination
        → continue_for from origin destination components d t ≡ Dismissed (send from (SentAbort origin (Cause UNRECOGNIZED_TRANSACTION_ID)))
    by None h = refl
    by (Some t) h = absurd (h refl)

-- the transaction after a Continue that is for the dialogue
pub transaction_after : (from origin destination : List ℕ) (d : Dialogue) → looked from (Continue origin destination) (Some d) ≡ For destination
    → (t : Transaction) × (for_it (transact (Some d.transaction) (ContinueComes from origin)) ≡ Some t)
transaction_after from origin destination d e = by (for_it (transact (Some d.transaction) (ContinueComes from origin))) e
  where
    by : (o : Option Transaction) → told_of origin destination o ≡ For destination → (t : Transaction) × (o ≡ Some t)
    by None e = absurd cc
    by (Some t) e = (t, refl)

pub continue_is : (from origin destination : List ℕ) (components : List Component) (d : Dialogue) (t : Transaction)
    → for_it (transact (Some d.transaction) (ContinueComes from origin)) ≡ Some t
    → continue_at from origin destination components (Some d) ≡ Continues destination (record d { transaction = t }) components
continue_is from origin destination components d t e = ap (continue_for from origin destination components d) e
