use Rattle.std.proofs.Common.{◌≡◌, ◌-◌, length, rules}
use Rattle.std.proofs.lemmas.Result.{on_ok_weaker}
use Rattle.outgoing.proofs.Elements.{wrapped}
use Rattle.outgoing.proofs.buffer.Buffer.wrap.Goals as goal

pub returns : goal.returns
returns c = λ contents behind same last.
    let left : c.saturating_sub-size.result ≡ length c.args.self.now - c.args.kept = search rules in
    on_ok_weaker c.put_head.result (wrapped c.args.tag _ _ contents behind c.args.kept _ left same last) c.put_head.ensures
