use Rattle.hlr_program.specs.Closing.{Lists}
use Rattle.hlr_program.proofs.ListLemmas.{asked_for, not_asked_for}
use Rattle.hlr_program.proofs.listing.push_asked_listings.Goals as goal

pub returns-then-asked : goal.returns-then-asked
returns-then-asked c = asked_for c.push_listings.result c.args.asked
    (Lists c.args.shards.now) c.args.text.now.items c.push_listings.new.text.items c.if-asked.true c.push_listings.ensures

pub returns : goal.returns
returns c = not_asked_for c.args.asked (Lists c.args.shards.now) c.args.text.now.items c.if-asked.false
