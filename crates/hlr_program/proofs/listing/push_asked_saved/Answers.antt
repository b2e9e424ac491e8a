use Rattle.hlr_program.specs.Closing.{SavesLines}
use Rattle.hlr_program.proofs.ListLemmas.{asked_for, not_asked_for}
use Rattle.hlr_program.proofs.listing.push_asked_saved.Goals as goal

pub returns-then-asked : goal.returns-then-asked
returns-then-asked c = asked_for c.push_saved.result c.args.asked
    (SavesLines c.args.shards.now) c.args.text.now.items c.push_saved.new.text.items c.if-asked.true c.push_saved.ensures

pub returns : goal.returns
returns c = not_asked_for c.args.asked (SavesLines c.args.shards.now) c.args.text.now.items c.if-asked.false
