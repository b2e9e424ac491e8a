-- Room for a dialogue that opens beside the open ones.
use Rattle.std.proofs.Common.{◌≡◌, Bool, true, false, not, None, IsTrue, refl, sym, ap, ◌∙◌, subst}
use Rattle.std.specs.Prelude.{◌↔◌}
use Rattle.machine.specs.State.{State, IsFull}
use Rattle.dialogues.specs.Dialogues.{OpenDialogues, dialogues_of}
use Rattle.hlrcore.specs.declared.plan.Plan.{Plan}
use Rattle.hlrcore.specs.Plans.{IsOpening, Overflows, id_of}
use Rattle.hlrcore.specs.Shards.{ShardState, state_of}

own_dialogues : (s : ShardState) (d : OpenDialogues) → d ≡ s.dialogues → (state_of s).dialogues ≡ dialogues_of d
unfolding state_of
own_dialogues s d e = ap dialogues_of (sym e)

pub overflows : (s : ShardState) (plan : Plan) (d : OpenDialogues) (is_full : Bool) → d ≡ s.dialogues → s.dialogues.shard ≡ s.shard
    → ((S : State) → S.dialogues ≡ dialogues_of d → IsTrue is_full ↔ IsFull S d.shard)
    → (IsOpening plan.outcome.dialogue × (id_of plan.named ≡ None))
    → (not is_full ≡ false) ↔ Overflows s plan
overflows s plan d is_full e own full beside =
    let number : d.shard ≡ s.shard = ap (λ (x : OpenDialogues). x.shard) e ∙ own in
    let tells = full (state_of s) (own_dialogues s d e) in (
      λ none. record { opens = beside.0; beside = beside.1; full = subst (IsFull (state_of s)) number (tells.0 (full_then is_full none)) },
      λ over. full_so is_full (tells.1 (subst (IsFull (state_of s)) (sym number) over.full)),
    )
  where
    full_then : (b : Bool) → not b ≡ false → IsTrue b
    full_then true none = refl
    full_then false none = absurd (cc none)

    full_so : (b : Bool) → IsTrue b → not b ≡ false
    full_so true is = refl
    full_so false is = absurd (cc is)
