use Rattle.std.proofs.Common.{List, length, refl, subst}
use Rattle.machine.specs.Deadlines.{IsFirst}
use Rattle.shardlog.specs.Log.{Log}
use Rattle.embed.specs.Lookups.{TimerBelow}
use Rattle.embed.proofs.LookupLemmas.{all_below}
use Rattle.embed.proofs.lookups.first_deadline.Goals as goal

pub returns : goal.returns
returns c =
    all_below c.args.node.now c.shards.ensures.keeps (length c.args.node.now.shards) refl c.first_in.result
    (subst (λ (ls : List Log). IsFirst (TimerBelow ls (length ls)) c.first_in.result) c.shards.ensures.shards c.first_in.ensures)
