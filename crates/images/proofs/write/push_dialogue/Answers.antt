use Rattle.std.proofs.Common.{◌∙◌}
use Rattle.std.specs.Prelude.{string_bytes}
use Rattle.std.proofs.lemmas.Result.{on_ok_weaker}
use Rattle.dialogues.specs.Dialogues.{dialogues_of}
use Rattle.images.proofs.WriteLemmas.{opened_after}
use Rattle.images.proofs.write.push_dialogue.Goals as goal

pub returns : goal.returns
returns c =
    let told = c.deref.ensures.value ∙ c.in_ok-told.ensures in
    on_ok_weaker c.push_opened.result (λ written. opened_after c.args.records.now c.args.id (dialogues_of c.args.dialogues.now c.args.id) c.get.result
    c.in-Some.dialogue c.deref.result.now c.is_current-is_current.result (string_bytes c.args.text.now) (string_bytes c.push_opened.new.text)
    c.get.ensures c.in-Some.is told c.is_current-is_current.ensures (written tt)) c.push_opened.ensures
