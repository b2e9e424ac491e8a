use Rattle.std.proofs.Common.{get_or, sym, ap, ◌∙◌, cond}
use Rattle.machine.specs.Contexts.{Named, Unknown}
use Rattle.mapctx.specs.Seen.{by_octets, with_octet}
use Rattle.mapctx.proofs.Names.{context_of-by_index}
use Rattle.mapctx.proofs.context_of.Goals as goal

pub returns-then-eq : goal.returns-then-eq
returns-then-eq c =
    let name = c.args.name.now in
    let said : Named = by_octets (with_octet (get_or name 5 0)) (get_or name 6 0) in
    let is_family = sym c.eq.ensures ∙ c.if-eq.true in
    c.of_octets.ensures ∙ sym (context_of-by_index name c.in-len7.len_at_least c.in-len7.len_below ∙ ap (λ b. cond b said Unknown) is_family)

pub returns-else-eq : goal.returns-else-eq
returns-else-eq c =
    let name = c.args.name.now in
    let said : Named = by_octets (with_octet (get_or name 5 0)) (get_or name 6 0) in
    let is_other = sym c.eq.ensures ∙ c.if-eq.false in
    sym (context_of-by_index name c.in-len7.len_at_least c.in-len7.len_below ∙ ap (λ b. cond b said Unknown) is_other)
