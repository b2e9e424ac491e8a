use Rattle.std.proofs.Common.{sym, ◌∙◌}
use Rattle.std.proofs.lemmas.Int.{to_z-of_z}
use Rattle.csl.proofs.Places.{in_sent_absent, in_sent_at}
use Rattle.csl.proofs.list.in_sent.Goals as goal

pub returns-in_default : goal.returns-in_default
returns-in_default c =
    let fits = c.ranges.id in
    sym (in_sent_absent c.args.id c.args.list.now (sym (simp to_z-of_z at c.place_of.ensures) ∙ c.in_default.is))

pub returns : goal.returns
returns c =
    let fits = c.ranges.id in
    c.is_sent.ensures
    ∙ sym (in_sent_at c.args.id c.args.list.now c.in-Some.place c.index-list-place.result
    (sym (simp to_z-of_z at c.place_of.ensures) ∙ c.in-Some.is) c.index-list-place.is)
