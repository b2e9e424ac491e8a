use Rattle.std.proofs.Common.{subst}
use Rattle.records.specs.Subscriber.{IsRecord}
use Rattle.records.proofs.FreshLemmas.{fresh_unmarked, fresh_added}
use Rattle.records.proofs.loaded.Loading.add.Goals as goal

pub invariant_of-self-2 : goal.invariant_of-self-2
invariant_of-self-2 c =
    fresh_added c.add.result c.self.inside.records c.add.new.self c.args.subscriber c.add.ensures.added c.add.ensures.stays c.add.ensures.err
    c.self.invariant
    (fresh_unmarked c.args.subscriber (subst IsRecord c.subscriber.view_is c.subscriber.invariant) c.requires.unmarked)
