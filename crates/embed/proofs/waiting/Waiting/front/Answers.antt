use Rattle.std.proofs.Common.{ap, ◌∙◌}
use Rattle.std.specs.Prelude.{option_map}
use Rattle.embed.proofs.WaitingLemmas.{front_is, item_is}
use Rattle.embed.proofs.waiting.Waiting.front.Goals as goal

pub returns : goal.returns
returns c =
    let lists = c.args.self.now.lists.items in
    front_is c.args.self.now.taken lists c.in-Some.outs.now c.as_slice.result.now c.get.result c.requires
    (item_is lists 0 c.front.result c.front.ensures.item ∙ ap (option_map (λ x. x.now)) c.in-Some.is) c.as_slice.ensures c.get.ensures.lookup
