use Rattle.std.proofs.Common.{◌<◌, length, refl, rules, sym, subst}
use Rattle.std.proofs.lemmas.Option.{slice_get-get_or}
use Rattle.records.specs.Maps.{DirectoryMap}
use Rattle.hlrcore.specs.Addressees.{IsAddressee}
use Rattle.hlrcore.specs.Events.{event_of}
use Rattle.hlrcore.specs.Shards.{directory_of}
use Rattle.wholenode.proofs.WholeLemmas.{replaced}
use Rattle.workers.proofs.GoingLemmas.{on_at, still}
use Rattle.workers.proofs.caller.handle_one.Goals as goal

pub apply-requires : goal.apply-requires
apply-requires g c =
    let low : c.from.result < length c.args.shards.now = search rules in
    let at = slice_get-get_or c.args.shards.now c.from.result c.index-shards-from.result low in
    subst (λ (d : DirectoryMap). IsAddressee (directory_of d) (event_of c.args.event.now) c.addressee_of-found.result)
    (sym (c.requires.each c.from.result _ at).state_is.directory_is) c.addressee_of-found.ensures.found

pub returns-clause-are : goal.returns-clause-are
returns-clause-are g c =
    let low : c.from.result < length c.args.shards.now = search rules in
    let at = slice_get-get_or c.args.shards.now c.from.result c.index-shards-from.result low in
    replaced c.args.directory.now c.args.shards.now c.from.result _ c.apply.new.shard c.requires at c.apply.ensures.keeps c.apply.ensures.gone_on.same

pub returns-clause-gone_on : goal.returns-clause-gone_on
returns-clause-gone_on g c =
    let low : c.from.result < length c.args.shards.now = search rules in
    let at = slice_get-get_or c.args.shards.now c.from.result c.index-shards-from.result low in
    on_at c.args.shards.now c.args.shards.now c.from.result _ c.apply.new.shard (still c.args.shards.now c.args.shards.now refl) at c.apply.ensures.gone_on
