use Rattle.std.proofs.Common.{◌≡◌, ℕ, suc, ◌+◌, ◌*◌, ◌-◌, ◌∷◌, ◌∙◌, ap, arith, take, drop, pos, None}
use Rattle.std.proofs.lemmas.Result.{on_ok_weaker}
use Rattle.machine.specs.Sent.{SentComponent, Insert}
use Rattle.frames.specs.SentTrees.{component_tree}
use Rattle.outgoing.specs.Spelled.{spelled}
use Rattle.outgoing.proofs.Elements.{last_put}
use Rattle.outgoing.proofs.written_inserts.+put_further.Goals as goal

pub returns : goal.returns
returns t c = λ behind same.
    let sent = c.args.sent.now in
    let place = c.args.count - 1 in
    let insert : ℕ → SentComponent = λ k. Insert (pos (k + 2)) sent.imsi None (take 8 (drop (8 * (k + 1)) sent.codes)) in
    let count : c.args.count ≡ suc place = omega (arith, c.if-count-eq0.false) in
    on_ok_weaker c.put_further.result (λ e. e ∙ ap spelled (last_put insert c.args.count place behind count))
    (c.put_further.ensures (component_tree (insert place) ∷ behind) (c.in_ok-put_insert_at.ensures behind same))
