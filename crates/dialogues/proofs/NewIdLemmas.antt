-- The id under which a dialogue may open.
use Rattle.std.proofs.Common.{◌≡◌, ◌<◌, ℕ, List, [], ◌∷◌, Option, Some, None, cond, sym, ap, ◌∙◌}
use Rattle.std.specs.List.{AllByRecursion}
use Rattle.std.specs.Option.{option_map, IfSome}
use Rattle.hlr_types.specs.Ids as ids
use Rattle.machine.specs.Keys.{Every, shard_of_id}
use Rattle.machine.specs.State.{IsIdOf}
use Rattle.machine_laws.proofs.Keys.{not_same}
use Rattle.tsl.specs.Transactions.{OpenTransactions, MayBegin, at, closed}
use Rattle.csl.specs.Tables.{InvocationLists}
use Rattle.dialogues.specs.declared.talk.Talk.{Talk}
use Rattle.dialogues.specs.Dialogues.{IsNew}
use Rattle.dialogues.specs.Joined.{dialogue_at, joined}
use Rattle.dialogues.proofs.JoinLemmas.{dialogues-joined}
use Rattle.dialogues.proofs.ChangeLemmas.{at-closed}
use Rattle.dialogues.proofs.StepLemmas.{next_apart}

every_octet : (id : List ℕ) → AllByRecursion (λ o. o < 256) id → Every (λ o. o < 256) id
every_octet [] h = tt
every_octet (o ∷ os) h = (h.0, every_octet os h.1)

pub machine_id : (n : ℕ) (id : List ℕ) → ids.IsIdOf n id → IsIdOf n id
unfolding shard_of_id
machine_id n id h = record { four = h.four; octets = every_octet id h.octets; shard = h.shard_first; not_zero = h.not_zero }

module _ (t : OpenTransactions) (lists : InvocationLists) (talks : List Talk) where
  new_at : (id : List ℕ) → ids.IsIdOf t.shard id → at t id ≡ None → IsNew (joined t lists talks) id
  new_at id of_shard none = record {
    of_shard = machine_id t.shard id of_shard;
    not_open = dialogues-joined t lists talks id ∙ ap (option_map (dialogue_at lists talks id)) none;
  }

  pub new_if_next : (o : Option (List ℕ)) → IfSome o (MayBegin t) → IfSome o (IsNew (joined t lists talks))
  new_if_next None may = may
  new_if_next (Some id) may = new_at id may.of_shard may.not_open

  pub new_after : (id next : List ℕ) → MayBegin (closed t id) next → IsNew (joined t lists talks) next
  new_after id next may =
      new_at next may.of_shard
      (sym (at-closed t id next ∙ ap (λ b. cond b None (at t next)) (not_same id next (next_apart t id next may))) ∙ may.not_open)
