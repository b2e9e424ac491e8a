use Rattle.std.proofs.Common.{sym, ap, ◌∙◌}
use Rattle.std.specs.Prelude.{option_map}
use Rattle.dialogues.specs.Dialogues.{dialogues_of, invocations_in}
use Rattle.dialogues.specs.Seen.{dialogue_with}
use Rattle.dialogues.proofs.SameLemmas.{same_open}
use Rattle.dialogues.proofs.same.same_at.Goals as goal

pub returns : goal.returns
returns c =
    same_open (dialogues_of c.args.left.now c.args.id) (dialogues_of c.args.right.now c.args.id) c.in-Some-Some.mine c.in-Some-Some.theirs _ _ _
    (ap (option_map (dialogue_with (invocations_in (dialogues_of c.args.left.now c.args.id)))) (sym c.in-Some-Some.is-0) ∙ c.get.ensures)
    (ap (option_map (dialogue_with (invocations_in (dialogues_of c.args.right.now c.args.id)))) (sym c.in-Some-Some.is-1) ∙ c.get-2.ensures)
    (c.same_dialogue.ensures.0 c.if-not-same_dialogue.false)
    (c.deref.ensures.value ∙ c.in_ok-invocations.ensures) (c.deref-2.ensures.value ∙ c.in_ok-others.ensures) c.same_invocations.ensures
