use Rattle.std.proofs.Common.{subst, sym}
use Rattle.std.proofs.lemmas.Result.{IfOk-weaker}
use Rattle.frames.specs.Frames.{IsVerdict}
use Rattle.msgarena.proofs.Octets.{are_octets, tree_judged}
use Rattle.msgarena.proofs.round.verdict_on.Goals as goal

pub returns-in-Ok : goal.returns-in-Ok
returns-in-Ok c =
    let octets = c.args.octets.now in
    let (spelled, short, shallow) = c.in-Ok.ensures.ok in
    let judged = tree_judged octets _ (are_octets octets c.type_inv.octets) spelled short shallow in
    IfOk-weaker c.verdict_of.result _ _ (λ found e. subst (IsVerdict octets) (sym e) judged) c.verdict_of.ensures
