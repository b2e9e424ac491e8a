use Rattle.std.proofs.Common.{ap, ◌∙◌}
use Rattle.std.specs.FinMap as map
use Rattle.dialogues.specs.Dialogues.{OpenDialogues}
use Rattle.images.proofs.ReadingLemmas.{reads_shard}
use Rattle.images.proofs.laws.law_read_again.Goals as goal

pub returns : goal.returns
returns c = λ o begins.
    let own = c.dialogues.ensures.value in
    reads_shard c.args.shard.now o c.law_sound.ensures begins c.dialogues.ensures.own c.ids-ids.result.now
    (c.ids-ids.ensures.shard ∙ ap (λ (d : OpenDialogues). d.shard) own)
    (c.ids-ids.ensures.supply ∙ ap (λ (d : OpenDialogues). d.supply) own)
    (c.ids-ids.ensures.live ∙ ap (λ (d : OpenDialogues). map.keys d.open_ones) own)
    (c.ids-ids.ensures.count ∙ ap (λ (d : OpenDialogues). map.len d.open_ones) own)
    c.law_resumed.ensures c.law_taken_again.ensures
