use Rattle.std.proofs.Common.{sym, ap}
use Rattle.records.specs.Subscriber.{Subscriber}
use Rattle.hlrcore.proofs.RecordLemmas.{purged_as}
use Rattle.hlrcore.proofs.writing.purge.Goals as goal

pub returns : goal.returns
returns c =
    let there = sym c.in-Some.ensures.found in
    purged_as c.args.records.now c.set.new.self c.args.imsi.now c.in-Some.found.now c.found.inside.register c.found.inside.current there
    (ap (λ (s : Subscriber). s.register) c.found.view_is) (ap (λ (s : Subscriber). s.current) c.found.view_is) (c.set.ensures c.in-Some.found.now there)
