use Rattle.std.proofs.Common.{ap, ◌∙◌}
use Rattle.records.specs.Written.{codes_text}
use Rattle.records.proofs.WrittenLemmas.{codes_listed, first_then}
use Rattle.records.proofs.push.push_codes.Goals as goal

pub returns : goal.returns
returns c =
    first_then _ _ _ _ _ _ c.in_ok-push_octet.ensures c.in_ok-push_following_codes.ensures
    (ap codes_text c.in-Some.ensures.cases.0 ∙ codes_listed c.in-Some.first.now c.in-Some.rest.now)
