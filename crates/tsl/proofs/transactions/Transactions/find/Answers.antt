use Rattle.std.proofs.Common.{◌≡◌, ◌≢◌, true, false, refl, ap, sym, ◌∙◌}
use Rattle.tidalloc.specs.LiveIds.{is_live}
use Rattle.tsl.specs.Transactions.{OpenTransactions, at}
use Rattle.tsl.proofs.ViewLemmas.{not_open_if_not_live}
use Rattle.tsl.proofs.transactions.Transactions.find.Goals as goal

pub returns-in_default-clause-value : goal.returns-in_default-clause-value
returns-in_default-clause-value c =
    let i = c.self.inside in
    let id = c.args.destination in
    let not_live : is_live i.ids id ≢ true = λ live.
    let read = c.in_default.ensures.only id (record { same = c.as_slice.ensures.value; count = (c.self.invariant.of_shard id live).four }) in
    cc in
    let dead : is_live i.ids id ≡ false = elim (is_live i.ids id) as
    (λ b. is_live i.ids id ≡ b → b ≡ false) [ true ↦ λ live. absurd (not_live live) | false ↦ λ _. refl ] refl in
    sym (ap (λ (t : OpenTransactions). at t id) (sym c.self.view_is) ∙ not_open_if_not_live i.ids i.keys.items i.entries i.room c.self.invariant id dead)
