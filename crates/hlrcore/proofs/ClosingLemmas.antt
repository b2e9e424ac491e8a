-- An End or an Abort of an open dialogue.
use Rattle.std.proofs.Common.{◌≡◌, ℕ, List, [], Option, Some, refl, sym, ap, ◌∙◌, subst}
use Rattle.std.specs.Prelude.{option_copied}
use Rattle.std.specs.Borrow.{Bor}
use Rattle.std.specs.FinMap as finite
use Rattle.machine.specs.Dialogues.{closes}
use Rattle.machine.specs.State.{Dialogue, Local, local_of}
use Rattle.machine.specs.Turns.{Turn, Closes, close_at}
use Rattle.tsl.specs.declared.received.Head.TheVariants.{End}
use Rattle.records.specs.Subscriber.{Subscriber}
use Rattle.dialogues.specs.Dialogues.{dialogues_of}
use Rattle.location.specs.declared.outcome.Outcome.{Outcome}
use Rattle.location.specs.Seen.{known, outcome_of}
use Rattle.location.specs.Writing.{CanBeWritten}
use Rattle.hlrcore.specs.declared.plan.Named.TheVariants.{Open}
use Rattle.hlrcore.specs.declared.plan.Plan.{Plan}
use Rattle.hlrcore.specs.Shards.{ShardState, state_of}
use Rattle.hlrcore.specs.declared.opened.Opened.{Opened}
use Rattle.hlrcore.specs.OpenOnes.{IsForIt, IsPlanFor, seen_as}
use Rattle.hlrcore.specs.Planning.{IsPlan}
use Rattle.hlrcore.proofs.OpenedLemmas.{is_there, planned, written}
use Rattle.hlrcore.proofs.SeenLemmas.{record_seen}

pub closing_planned : (s : ShardState) (destination : List ℕ) (o : Opened) (found : Option (Bor Subscriber)) (does : Outcome) (plan : Plan)
    → IsForIt s.dialogues (End destination) o → option_copied found ≡ finite.get s.records o.dialogue.subscriber
    → ((here : Local) (name : Option Dialogue) → here.record_of ≡ known found → outcome_of here name [] does ≡ closes here o.id)
    → CanBeWritten does.after (option_copied found) → IsPlanFor o.dialogue.subscriber (Open o.id) o.new does plan
    → IsPlan s (close_at destination (dialogues_of s.dialogues destination)) plan
closing_planned s destination o found does plan for_it copied leaves can_write parts =
    let imsi = o.dialogue.subscriber in
    let turn : Closes o.id (seen_as s.dialogues o) ≡ close_at destination (dialogues_of s.dialogues destination) =
    ap (close_at o.id) (sym for_it.opened.is_open) ∙ ap (λ id. close_at id (dialogues_of s.dialogues id)) for_it.at in
    subst (λ (t : Turn). IsPlan s t plan) turn
    (planned s (Closes o.id (seen_as s.dialogues o)) imsi (Open o.id) o.new does plan parts
    (is_there s o for_it.opened) (for_it.opened.next, for_it.opened.is_new) (written s imsi found does copied can_write) tt refl refl refl
    (sym (leaves (local_of (state_of s) s.shard imsi) (dialogues_of s.dialogues o.id) (record_seen s (Some imsi) found copied))))
