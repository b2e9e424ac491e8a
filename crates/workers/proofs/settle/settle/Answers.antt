use Rattle.std.proofs.Common.{List, subst}
use Rattle.frames.specs.Account.{Reconciles}
use Rattle.shardlog.specs.Log.{Log}
use Rattle.receipts.specs.Journals.{journal_list}
use Rattle.workers.proofs.GoingLemmas.{settles_node}
use Rattle.workers.proofs.settle.settle.Goals as goal

pub returns : goal.returns
returns g c = record {
  settled = settles_node c.args.node.now c.args.jobs.now c.args.receipts.now c.reconcile.result
      (λ ok. subst (λ (ls : List Log). Reconciles (journal_list ls) c.args.jobs.now c.args.receipts.now) c.shards.ensures.shards (c.reconcile.ensures.ok.0 ok))
      c.shards.ensures.keeps;
}
