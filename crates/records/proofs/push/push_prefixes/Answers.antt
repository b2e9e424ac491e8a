use Rattle.std.proofs.Common.{ap, ◌∙◌, List, ℕ}
use Rattle.std.specs.Prelude.{Some}
use Rattle.records.specs.Written.{roam_text}
use Rattle.records.proofs.WrittenLemmas.{prefixes_listed, first_then}
use Rattle.records.proofs.push.push_prefixes.Goals as goal

pub returns : goal.returns
returns c =
    first_then _ _ _ _ _ _ c.in_ok-push_digits.ensures c.in_ok-push_following_prefixes.ensures
    (ap (λ (ps : List (List ℕ)). roam_text (Some ps)) c.in-Some.ensures.cases.0 ∙ prefixes_listed c.in-Some.first.now c.in-Some.rest.now)
