use Rattle.std.proofs.Common.{◌≡◌, rules, sym, subst}
use Rattle.workers.specs.Going.{bases_of}
use Rattle.workers.specs.Shared.{AreSettled, shared_state}
use Rattle.workers.proofs.Standing.{closes}
use Rattle.workers.proofs.shared.SharedRegister.close.Goals as goal

pub returns : goal.returns
returns g c =
    let node = c.in-Some.node in
    let was : c.args.self ≡ shared_state (bases_of node.shards) c.deref.result.now c.deref-2.result.now = search rules in
    record {
      hands_out = closes c.args.self (bases_of node.shards) c.deref.result.now c.deref-2.result.now c.into_shards.result.items was
          (subst (AreSettled (bases_of node.shards) c.deref.result.now c.deref-2.result.now) (sym c.into_shards.ensures.shards) c.in_ok-settle.ensures.settled);
      account = search rules;
    }
