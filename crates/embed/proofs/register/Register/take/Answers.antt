use Rattle.std.proofs.Common.{◌++◌, ap, refl, subst, ◌∙◌}
use Rattle.hlrcore.specs.Events.{raw_event}
use Rattle.wholenode.specs.Handling.{Refuses}
use Rattle.wholenode.specs.Nodes.{NodeState}
use Rattle.embed.specs.Registers.{RegisterState}
use Rattle.embed.specs.Waiting.{waiting_in}
use Rattle.embed.proofs.NumberLemmas.{takes_numbered}
use Rattle.embed.proofs.RegisterLemmas.{answers}
use Rattle.embed.proofs.register.Register.take.Goals as goal

pub invariant_of-self-in-Ok : goal.invariant_of-self-in-Ok
invariant_of-self-in-Ok c = record {
  queue = c.append.ensures.queue;
  numbers =
      takes_numbered c.self.inside.node (raw_event c.args.raw) c.in-Ok.handled c.take.new.self c.in-Ok.ensures.takes c.self.invariant.numbers;
}

pub returns-in-Ok-clause-answers : goal.returns-in-Ok-clause-answers
returns-in-Ok-clause-answers c =
    answers c.args.self.now c.self.inside.node c.take.new.self (raw_event c.args.raw)
    (waiting_in c.self.inside.waiting.taken c.self.inside.waiting.lists.items)
    (waiting_in c.append.new.self.taken c.append.new.self.lists.items) c.self.inside.subject c.in-Ok.handled.subject c.in-Ok.handled c.self.view_is c.in-Ok.ensures.takes c.take.ensures.keeps
    (c.append.ensures.waiting
    ∙ (λ i. waiting_in (c.reserve.ensures.taken i) (c.reserve.ensures.lists i) ++ c.in-Ok.handled.outs)) refl

pub returns-in-Err-clause-refused : goal.returns-in-Err-clause-refused
returns-in-Err-clause-refused c =
    subst (λ (n : NodeState). Refuses n (raw_event c.args.raw) c.in-Err.cause)
    (ap (λ (r : RegisterState). r.node) c.self.view_is) c.in-Err.ensures.refused
