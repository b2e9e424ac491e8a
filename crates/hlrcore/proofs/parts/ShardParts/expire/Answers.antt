use Rattle.std.proofs.Common.{◌≡◌, None, true, refl, rules, subst}
use Rattle.std.specs.Bool.{OnTrue}
use Rattle.hlrcore.specs.Planning.{IsExpiry}
use Rattle.hlrcore.proofs.IdsLemmas.{says_nothing}
use Rattle.hlrcore.proofs.ReceivingLemmas.{expiry_left}
use Rattle.hlrcore.proofs.parts.ShardParts.expire.Goals as goal

pub returns-then-nothing_is_due-clause-expired : goal.returns-then-nothing_is_due-clause-expired
returns-then-nothing_is_due-clause-expired c =
    let none : c.nothing_is_due.result ≡ true = search rules in
    expiry_left c.args.self.now c.args.self.now None c.silent.result refl
    (subst (λ b. OnTrue b (IsExpiry c.args.self.now None)) none c.nothing_is_due.ensures.none) refl c.silent.ensures

pub returns-then-nothing_is_due-clause-ids : goal.returns-then-nothing_is_due-clause-ids
returns-then-nothing_is_due-clause-ids c = says_nothing c.args.self.now.dialogues c.silent.result _ _ c.silent.ensures
