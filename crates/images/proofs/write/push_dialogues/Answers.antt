use Rattle.std.proofs.Common.{◌≡◌, ◌<◌, ℕ, List, length, get_or, ap, ◌∙◌, subst}
use Rattle.std.specs.FinMap as finite
use Rattle.std.specs.Prelude.{string_bytes}
use Rattle.images.proofs.OpenEntries.{is_open}
use Rattle.images.proofs.WriteLemmas.{opened_more}
use Rattle.images.proofs.write.push_dialogues.Goals as goal

pub push_dialogue-requires : goal.push_dialogue-requires
push_dialogue-requires c =
    let d = c.args.dialogues.now in
    let keys : c.deref-id-items.result.now ≡ finite.keys d.open_ones = c.deref-id-items.ensures.value ∙ c.in_ok-ids.ensures in
    let lt = subst (λ (xs : List (List ℕ)). c.loop-id.id-index < length xs) keys c.loop-id-test.true in
    let is = c.id-item.is ∙ ap (λ (xs : List (List ℕ)). get_or xs c.loop-id.id-index c.id-item.result) keys in
    is_open d c.loop-id.id-index c.id-item.result lt is

pub loop-id-preserved : goal.loop-id-preserved
loop-id-preserved c =
    let d = c.args.dialogues.now in
    let keys : c.deref-id-items.result.now ≡ finite.keys d.open_ones = c.deref-id-items.ensures.value ∙ c.in_ok-ids.ensures in
    let lt = subst (λ (xs : List (List ℕ)). c.loop-id.id-index < length xs) keys c.loop-id-test.true in
    let is = c.id-item.is ∙ ap (λ (xs : List (List ℕ)). get_or xs c.loop-id.id-index c.id-item.result) keys in
    opened_more c.args.records.now d c.loop-id.id-index c.id-item.result (string_bytes c.args.text.now) (string_bytes c.loop-id.text)
    (string_bytes c.push_dialogue.new.text) lt is c.loop-id.invariant c.in_ok-push_dialogue.ensures
