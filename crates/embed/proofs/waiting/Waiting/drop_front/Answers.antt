use Rattle.std.proofs.Common.{◌≡◌, ◌<◌, ◌+◌, length, sym, ap, ◌∙◌, arith}
use Rattle.std.proofs.lemmas.List.{length-map}
use Rattle.std.specs.Prelude.{option_map}
use Rattle.hlrcore.specs.Frames.{raw_out}
use Rattle.embed.proofs.WaitingLemmas.{item_is, last_taken, one_taken}
use Rattle.embed.proofs.waiting.Waiting.drop_front.Goals as goal

pub returns-then-self-count-clause-rest : goal.returns-then-self-count-clause-rest
returns-then-self-count-clause-rest c = one_taken c.args.self.now.taken c.args.self.now.lists.items

pub returns-clause-rest : goal.returns-clause-rest
returns-clause-rest c =
    let lists = c.args.self.now.lists.items in
    let same : length c.in-Some.outs.now ≡ length c.as_slice-count.result.now =
    sym (ap length c.as_slice-count.ensures) ∙ length-map c.as_slice-count.result.now raw_out in
    let last : c.args.self.now.taken + 1 < length c.in-Some.outs.now → ⊥ = λ lt. omega (arith, lt, same, c.if-self-count.false) in
    last_taken c.args.self.now.taken lists c.pop_front.new.self.items c.in-Some.outs.now c.requires
    (item_is lists 0 c.front.result c.front.ensures.item ∙ ap (option_map (λ x. x.now)) c.in-Some.is) last c.pop_front.ensures.rest
