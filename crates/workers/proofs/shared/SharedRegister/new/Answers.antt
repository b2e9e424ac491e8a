use Rattle.std.proofs.Common.{◌≡◌, List, [], rules, sym, subst}
use Rattle.frames.specs.Account.{Job, Receipt}
use Rattle.machine.specs.Opening.{opening}
use Rattle.hlrcore.specs.Shards.{directory_of, records_of}
use Rattle.workers.specs.Going.{bases_of}
use Rattle.workers.specs.Shared.{StandsBehind, shared_state}
use Rattle.workers.proofs.GoingLemmas.{keep_opening}
use Rattle.workers.proofs.Standing.{stands_at_first}
use Rattle.workers.proofs.shared.SharedRegister.new.Goals as goal

pub invariant_of-result : goal.invariant_of-result
invariant_of-result c = keep_opening c.args.loaded 0 16 c.in_ok-node.node.shards c.in_ok-node.ensures.begins.shards_are

pub returns : goal.returns
returns c =
    let no_jobs : c.in_ok-with_capacity.field-0.items ≡ [] = search rules in
    let no_receipts : c.in_ok-with_capacity-2.field-0.items ≡ [] = search rules in
    record {
      begins = subst (λ (p : List Job × List Receipt). StandsBehind
          (opening (records_of c.args.loaded.records) (directory_of c.args.loaded.directory) c.args.loaded.hlr) [] []
          (shared_state (bases_of c.in_ok-node.node.shards) p.0 p.1))
          (λ i. ((sym no_jobs) i, (sym no_receipts) i))
          (stands_at_first c.args.loaded c.in_ok-node.node c.in_ok-node.ensures.begins c.in_ok-node.ensures.keeps);
    }
