use Rattle.std.proofs.Common.{◌≡◌, ℕ, List, Option, Some, map, sym, ap, ◌∙◌, subst}
use Rattle.std.specs.Prelude.{IfSome}
use Rattle.q773_comp.specs.Seen.{component}
use Rattle.msgarena.specs.Seen.{parameter}
use Rattle.hlrcore.specs.Shards.{record_at}
use Rattle.hlrcore.proofs.PlanLemmas.{begin_plan}
use Rattle.hlrcore.proofs.begin.plan_begin.Goals as goal

pub returns : goal.returns
returns c name is =
    let s = c.args.shard.now in
    let cs = map (component parameter) c.args.components.now in
    let imsi = c.as_ref.ensures.value in
    begin_plan s c.args.imsi c.record_of-subscriber.result c.next_or_any-new.result c.new.result c.in_ok-outcome.outcome c.unnamed.result c.unnamed.ensures
    (c.record_of-subscriber.ensures.found ∙ ap (record_at s.records) imsi)
    (subst (λ (i : Option (List ℕ)). IfSome c.record_of-subscriber.result (λ f. i ≡ Some f.now.imsi)) imsi c.record_of-subscriber.ensures.own)
    c.next_or_any-new.ensures c.in_ok-outcome.ensures.writable
    c.args.indication.now.from c.args.origin name cs c.requires.about c.new.ensures
    (λ here clock own known_is. c.in_ok-outcome.ensures.leaves here name (clock ∙ sym c.clock-now.ensures.value) is own known_is)
