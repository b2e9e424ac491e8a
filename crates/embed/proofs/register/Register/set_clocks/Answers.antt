use Rattle.std.proofs.Common.{◌≡◌, ap, rules}
use Rattle.std.specs.Prelude.{Err}
use Rattle.wholenode.specs.Ticking.{clocks_from}
use Rattle.embed.specs.Registers.{RegisterState}
use Rattle.embed.specs.Waiting.{waiting_in}
use Rattle.embed.proofs.KeepingLemmas.{never_as, refused_as}
use Rattle.embed.proofs.NumberLemmas.{runs_numbered}
use Rattle.embed.proofs.RegisterLemmas.{sets_clocks}
use Rattle.embed.proofs.register.Register.set_clocks.Goals as goal

pub returns-in_err-tick_all-clause-refused : goal.returns-in_err-tick_all-clause-refused
returns-in_err-tick_all-clause-refused c =
    let told : c.from_residual.result ≡ Err c.in_err-tick_all.field-0.0 = search rules in
    refused_as c.from_residual.result c.in_err-tick_all.field-0.0 c.args.self.now.node c.self.inside.node c.args.now told
    (ap (λ (r : RegisterState). r.node) c.self.view_is) c.in_err-tick_all.ensures.refused

pub returns-in_err-tick_all-clause-never : goal.returns-in_err-tick_all-clause-never
returns-in_err-tick_all-clause-never c =
    let told : c.from_residual.result ≡ Err c.in_err-tick_all.field-0.0 = search rules in
    never_as c.from_residual.result c.in_err-tick_all.field-0.0 c.args.self.now.node c.self.inside.node c.args.now told
    (ap (λ (r : RegisterState). r.node) c.self.view_is) c.in_err-tick_all.ensures.refused

pub invariant_of-self-2 : goal.invariant_of-self-2
invariant_of-self-2 c = record {
  queue = c.self.invariant.queue;
  numbers = runs_numbered c.self.inside.node (clocks_from 0 16 c.args.now) c.in_ok-tick_all.ensures.ticks.handled c.tick_all.new.self
      c.in_ok-tick_all.ensures.ticks.runs c.self.invariant.numbers;
}

pub returns-clause-sets : goal.returns-clause-sets
returns-clause-sets c =
    sets_clocks c.args.self.now c.self.inside.node c.tick_all.new.self c.args.now
    (waiting_in c.self.inside.waiting.taken c.self.inside.waiting.lists.items) c.self.inside.subject c.self.view_is c.in_ok-tick_all.ensures.ticks
    c.tick_all.ensures.keeps
