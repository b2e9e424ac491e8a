use Rattle.std.proofs.Common.{◌≡◌, [], rules}
use Rattle.hlr_program.proofs.ListLemmas.{all_behind_v}
use Rattle.hlr_program.proofs.listing.push_behind_v.Goals as goal

pub returns : goal.returns
returns c = let none : c.lines.left.rest.now
    ≡ [] = search rules in all_behind_v c.lines.left.rest.now c.lines.text.items c.args.file.now c.args.text.now.items none c.lines.invariant
