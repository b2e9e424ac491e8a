use Rattle.std.proofs.Common.{[], ◌++◌, map, ◌∙◌, sym}
use Rattle.std.proofs.lemmas.Result.{on_ok_weaker}
use Rattle.frames.specs.SentTrees.{component_tree, reject_tree}
use Rattle.q773_comp.specs.Seen.{rejection}
use Rattle.outgoing.specs.Seen.{components}
use Rattle.outgoing.proofs.Elements.{no_portion, some_portion}
use Rattle.outgoing.proofs.written_messages.put_portion.Goals as goal

pub returns-then-len-eq0 : goal.returns-then-len-eq0
returns-then-len-eq0 c = λ empty.
    let own = map component_tree (components c.args.sent.now) in
    let rejects = map reject_tree (map rejection c.args.rejects.now) in
    let all = c.in_ok-put_rejects.ensures (own ++ []) (c.in_ok-put_components.ensures [] empty) in
    no_portion _ rejects own all (sym c.len.ensures ∙ c.if-len-eq0.true)

pub returns : goal.returns
returns c = λ empty.
    let own = map component_tree (components c.args.sent.now) in
    let rejects = map reject_tree (map rejection c.args.rejects.now) in
    let all = c.in_ok-put_rejects.ensures (own ++ []) (c.in_ok-put_components.ensures [] empty) in
    on_ok_weaker c.wrap_all.result (some_portion _ _ rejects own all (λ none. c.if-len-eq0.false (c.len.ensures ∙ none)))
    (c.wrap_all.ensures (rejects ++ (own ++ [])) all)
