use Rattle.std.proofs.Common.{◌||◌, refl, ap, ◌∙◌}
use Rattle.std.specs.FinSet as set
use Rattle.hlr_types.proofs.OrderLemmas.{octets_total, eq_octets}
use Rattle.tidalloc.specs.LiveIds.{LiveIds, is_live}
use Rattle.bench.proofs.tables.take_and_give_back.Goals as goal

pub give_back-requires : goal.give_back-requires
give_back-requires c =
    let id = c.in_ok-id.id in
    ap (λ (v : LiveIds). is_live v id) c.in_ok-id.ensures.taken.after
    ∙ set.contains-insert octets_total c.args.ids.now.live id id
    ∙ ap (λ b. b || is_live c.args.ids.now id) (eq_octets id id refl)
