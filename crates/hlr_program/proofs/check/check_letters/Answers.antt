use Rattle.std.proofs.Common.{◌≡◌, ℕ, length, rules, subst}
use Rattle.std.specs.Prelude.{option_map}
use Rattle.texts.specs.Lines.{lines}
use Rattle.hlr_input.specs.Octets.{ids_in}
use Rattle.hlr_program.specs.Batches.{HasIds, IsFirst, LacksId, batch_of}
use Rattle.hlr_program.proofs.check.check_letters.Goals as goal

pub returns-in-Some-clause-unknown : goal.returns-in-Some-clause-unknown
returns-in-Some-clause-unknown c =
    let same : length c.in-Some.ids.now ≡ length (ids_in (option_map (λ i. i.now) c.args.ids)) = search rules in
    λ n is. subst (λ (k : ℕ). IsFirst (HasIds k) (LacksId k) (batch_of (lines c.args.from.rest.now)) c.args.from.before n) same
    (c.find_unknown.ensures.unknown n is)
