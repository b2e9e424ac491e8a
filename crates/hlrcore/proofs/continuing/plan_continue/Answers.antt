use Rattle.std.proofs.Common.{map}
use Rattle.q773_comp.specs.Seen.{component}
use Rattle.msgarena.specs.Seen.{parameter}
use Rattle.dialogues.specs.Dialogues.{dialogues_of}
use Rattle.hlrcore.proofs.ContinuingLemmas.{continue_planned}
use Rattle.hlrcore.proofs.LookLemmas.{continue_for_none}
use Rattle.hlrcore.proofs.continuing.plan_continue.Goals as goal

pub returns-in_default : goal.returns-in_default
returns-in_default c =
    continue_for_none c.args.from c.args.origin c.args.destination (map (component parameter) c.args.components.now)
    (dialogues_of c.args.shard.now.dialogues c.args.destination) (c.in_default.ensures c.args.from)

pub returns : goal.returns
returns c =
    continue_planned c.args.shard.now c.args.from c.args.origin c.args.destination c.in-Some.opened c.args.components.now c.in_ok-continued.field-0
    c.in-Some.ensures c.in_ok-continued.ensures
