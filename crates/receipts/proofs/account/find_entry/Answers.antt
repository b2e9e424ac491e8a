use Rattle.std.proofs.Common.{sym, ap, ◌∙◌}
use Rattle.std.specs.Option.{option_copied}
use Rattle.receipts.proofs.Places.{found, nowhere}
use Rattle.receipts.proofs.account.find_entry.Goals as goal

pub returns-in-Some : goal.returns-in-Some
returns-in-Some c =
    found c.args.shards.now c.args.shard c.args.position c.in-Some.found.now c.entries.result.now c.entry_in.result
    (sym c.shard_at.ensures ∙ ap option_copied c.in-Some.is) c.entries.ensures.entries c.entry_in.ensures

pub returns-in-None : goal.returns-in-None
returns-in-None c = nowhere c.args.shards.now c.args.shard c.args.position (sym c.shard_at.ensures ∙ ap option_copied c.in-None.is)
