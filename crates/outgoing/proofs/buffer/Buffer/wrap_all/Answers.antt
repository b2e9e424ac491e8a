use Rattle.std.proofs.Common.{[], sym, refl, ap, ◌∙◌, append-nil}
use Rattle.std.proofs.lemmas.Result.{on_ok_weaker}
use Rattle.x690.specs.Tree.{element}
use Rattle.outgoing.specs.Spelled.{spelled}
use Rattle.outgoing.proofs.Elements.{spelled-one}
use Rattle.outgoing.proofs.buffer.Buffer.wrap_all.Goals as goal

pub returns : goal.returns
returns c = λ contents same.
    on_ok_weaker c.wrap.result (λ e. e ∙ spelled-one (element c.args.tag contents))
    (c.wrap.ensures contents [] (same ∙ ap spelled (sym (append-nil contents))) refl)
