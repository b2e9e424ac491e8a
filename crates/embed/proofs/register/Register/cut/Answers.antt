use Rattle.std.proofs.Common.{◌≡◌, rules}
use Rattle.embed.specs.Waiting.{waiting_in}
use Rattle.embed.proofs.NumberLemmas.{cuts_numbered}
use Rattle.embed.proofs.RegisterLemmas.{cuts_off}
use Rattle.embed.proofs.register.Register.cut.Goals as goal

pub invariant_of-self-2 : goal.invariant_of-self-2
invariant_of-self-2 c = record {
  queue = c.self.invariant.queue;
  numbers = cuts_numbered c.self.inside.node c.number.result c.in_ok-_epoch._epoch c.cut.new.self c.in_ok-_epoch.ensures.cuts c.self.invariant.numbers;
}

pub returns-clause-cuts : goal.returns-clause-cuts
returns-clause-cuts c =
    let same : c.number.result ≡ c.args.shard = search rules in
    cuts_off c.args.self.now c.self.inside.node c.cut.new.self c.number.result c.args.shard
    (waiting_in c.self.inside.waiting.taken c.self.inside.waiting.lists.items) c.self.inside.subject c.in_ok-_epoch._epoch c.self.view_is same c.in_ok-_epoch.ensures.cuts
    c.cut.ensures.keeps
