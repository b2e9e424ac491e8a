use Rattle.std.proofs.Common.{◌≡◌, ap, sym, subst, ◌∙◌, arith}
use Rattle.tsl.specs.Transactions.{OpenTransactions, count, HaveIdsOfShard}
use Rattle.tsl.proofs.ViewLemmas.{count-open_of, has_id_of_shard}
use Rattle.tsl.proofs.transactions.Transactions.len.Goals as goal

pub returns-clause-value : goal.returns-clause-value
returns-clause-value c =
    let i = c.self.inside in
    c.live_count.ensures.value ∙ sym (count-open_of i.ids i.keys.items i.entries i.room c.self.invariant) ∙ ap count c.self.view_is

pub returns-clause-of_shard : goal.returns-clause-of_shard
returns-clause-of_shard c =
    let i = c.self.inside in
    subst HaveIdsOfShard c.self.view_is (has_id_of_shard i.ids i.keys.items i.entries i.room c.self.invariant)

pub returns-clause-fits : goal.returns-clause-fits
returns-clause-fits c =
    let room : c.self.inside.room ≡ c.args.self.now.room = ap (λ (t : OpenTransactions). t.room) c.self.view_is in
    omega (arith, c.live_count.ensures, c.self.invariant.few, room)
