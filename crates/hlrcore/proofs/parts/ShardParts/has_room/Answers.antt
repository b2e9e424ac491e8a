use Rattle.hlrcore.proofs.RoomLemmas.{overflows}
use Rattle.hlrcore.proofs.parts.ShardParts.has_room.Goals as goal

pub returns-clause-full : goal.returns-clause-full
returns-clause-full c =
    overflows c.args.self.now c.args.plan.now c.dialogues.result.now c.is_full.result c.dialogues.ensures.value c.dialogues.ensures.own c.is_full.ensures.full
    (c.opens_beside.ensures.0 c.if-not-opens_beside.false)
