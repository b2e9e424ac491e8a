-- Which dialogue a message is for.
use Rattle.std.proofs.Common.{◌≡◌, List, ℕ, Option, Some, None, true, false, cond, refl, sym, ap, ◌∙◌}
use Rattle.std.specs.Option.{option_map}
use Rattle.machine.specs.Keys.{same}
use Rattle.machine.specs.State.{Transaction}
use Rattle.machine.specs.Transactions.{ForIt, Unassigned, continue_row, row, transact}
use Rattle.machine.specs.Turns.{for_it}
use Rattle.tsl.specs.declared.received.Head.{Head}
use Rattle.tsl.specs.declared.received.Head.TheVariants.{Continue, End, Abort}
use Rattle.tsl.specs.Received as tsl
use Rattle.tsl.specs.Received.{received, destination_of}
use Rattle.tsl.specs.Transactions.{OpenTransactions, at}
use Rattle.csl.specs.Tables.{InvocationLists}
use Rattle.dialogues.specs.declared.talk.Talk.{Talk}
use Rattle.dialogues.specs.Dialogues.{OpenDialogues, dialogues_of}
use Rattle.dialogues.specs.Joined.{dialogue_at, joined}
use Rattle.dialogues.specs.Looking.{told_of, looked}
use Rattle.dialogues.proofs.JoinLemmas.{dialogues-joined}

module _ (t : OpenTransactions) (lists : InvocationLists) (talks : List Talk) (from : List ℕ) where
  of_continue : (origin destination : List ℕ) (s : Transaction) (r : Option (List ℕ))
      → tsl.told_of (Continue origin destination) (continue_row s r from origin) ≡ told_of origin destination (for_it (continue_row s r from origin))
  of_continue origin destination s None = refl
  of_continue origin destination s (Some known) =
      elim (same known origin) as (λ b. tsl.told_of (Continue origin destination) (cond b (row (Some s) ForIt) (row (Some s) Unassigned))
      ≡ told_of origin destination (for_it (cond b (row (Some s) ForIt) (row (Some s) Unassigned)))) [
        | true ↦ refl
        | false ↦ refl
      ]

  by_transaction : (head : Head) (o : Option Transaction)
      → tsl.told_of head (transact o (tsl.primitive_of from head)) ≡ looked from head (option_map (dialogue_at lists talks (destination_of head)) o)
  by_transaction (Continue origin destination) None = refl
  by_transaction (Continue origin destination) (Some s) = of_continue origin destination s s.remote
  by_transaction (End destination) None = refl
  by_transaction (End destination) (Some s) = refl
  by_transaction (Abort destination) None = refl
  by_transaction (Abort destination) (Some s) = refl

  pub received_is_looked : (d : OpenDialogues) (head : Head) → joined t lists talks ≡ d
      → received t from head ≡ looked from head (dialogues_of d (destination_of head))
  received_is_looked d head view =
      by_transaction head (at t (destination_of head))
      ∙ ap (looked from head) (sym (dialogues-joined t lists talks (destination_of head)))
      ∙ ap (λ (e : OpenDialogues). looked from head (dialogues_of e (destination_of head))) view
