use Rattle.std.proofs.Common.{sym, ap}
use Rattle.records.specs.Subscriber.{Subscriber, allowed}
use Rattle.hlrcore.proofs.RecordLemmas.{put_known, put_place, put_there, recoded_as}
use Rattle.hlrcore.proofs.writing.recode.Goals as goal

pub set-requires-clause-known : goal.set-requires-clause-known
set-requires-clause-known c =
    put_known c.args.records.now c.put.new.self c.args.imsi.now c.args.codes c.in-Some.found.now c.found.inside.withdrawn
    (c.put.ensures c.in-Some.found.now (sym c.in-Some.ensures.found))

pub set-requires-clause-place : goal.set-requires-clause-place
set-requires-clause-place c =
    put_place c.args.records.now c.put.new.self c.args.imsi.now c.args.codes c.in-Some.found.now c.found.inside.withdrawn
    (c.put.ensures c.in-Some.found.now (sym c.in-Some.ensures.found))
    c.found.inside.register c.found.inside.purged c.found.inside.current c.found.invariant.place

pub returns : goal.returns
returns c =
    let s = c.in-Some.found.now in
    let there = sym c.in-Some.ensures.found in
    let put_so = c.put.ensures s there in
    recoded_as c.args.records.now c.put.new.self c.args.imsi.now c.args.codes s c.found.inside.withdrawn put_so
    c.set.new.self c.found.inside.register c.found.inside.purged there
    (ap (λ (r : Subscriber). r.register) c.found.view_is) (ap (λ (r : Subscriber). r.purged) c.found.view_is)
    (ap (λ (r : Subscriber). r.withdrawn) c.found.view_is)
    (c.set.ensures (allowed s c.args.codes c.found.inside.withdrawn)
    (put_there c.args.records.now c.put.new.self c.args.imsi.now c.args.codes s c.found.inside.withdrawn put_so))
