use Rattle.std.proofs.Common.{◌≡◌, [], Some, refl, rules, subst}
use Rattle.std.specs.Prelude.{IfSome}
use Rattle.workers.specs.Going.{KeepEntries, bases_of}
use Rattle.workers.specs.Shared.{shared_state}
use Rattle.workers.proofs.GoingLemmas.{all_keep, keep_cut}
use Rattle.workers.proofs.Standing.{cut_goes}
use Rattle.workers.proofs.shared.SharedRegister.cut.Goals as goal

pub returns : goal.returns
returns g c =
    let node = c.in-Some.node in let now = c.cut.result in
    let was : c.args.self.now ≡ shared_state (bases_of node.shards) c.deref.result.now c.deref-2.result.now = search rules in
    let no_jobs : c.clear.new.self.items ≡ [] = search rules in
    let no_receipts : c.clear-2.new.self.items ≡ [] = search rules in
    cut_goes c.args.self.now (bases_of node.shards) (bases_of now.shards) c.deref.result.now c.clear.new.self.items c.deref-2.result.now
    c.clear-2.new.self.items node.shards now.shards was c.in_ok-settle.ensures.settled c.cut.ensures.shards
    (all_keep now.directory now.shards c.cut.ensures.keeps.shards) refl no_jobs no_receipts

pub invariant_of-self-2 : goal.invariant_of-self-2
invariant_of-self-2 g c =
    let was : c.self.inside.node ≡ Some c.in-Some.node = search rules in
    keep_cut c.in-Some.node.shards c.cut.result.shards c.cut.ensures.shards (subst (λ o. IfSome o (λ n. KeepEntries n.shards)) was c.self.invariant)
