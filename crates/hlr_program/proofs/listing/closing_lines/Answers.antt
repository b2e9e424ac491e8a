use Rattle.hlr_program.proofs.ListLemmas.{closes}
use Rattle.hlr_program.proofs.listing.closing_lines.Goals as goal

pub returns : goal.returns
returns c =
    closes c.args.options.now.list c.args.options.now.save c.args.shards.now c.new-text.result.items
    c.push_asked_listings.new.text.items c.push_asked_saved.new.text.items c.new-text.ensures.items
    c.in_ok-push_asked_listings.ensures c.in_ok-push_asked_saved.ensures
