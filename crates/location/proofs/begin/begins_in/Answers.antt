use Rattle.std.proofs.Common.{◌∙◌, option_map}
use Rattle.msgarena.specs.Seen.{argument}
use Rattle.mapctx.specs.Seen.{context}
use Rattle.csl.specs.Effects.{offered}
use Rattle.location.proofs.BeginLemmas.{begun_is}
use Rattle.location.proofs.begin.begins_in.Goals as goal

pub returns-clause-leaves : goal.returns-clause-leaves
returns-clause-leaves c = λ here clock own is.
    c.started_in.ensures.leaves here own is
    ∙ begun_is here c.args.source.from c.args.source.origin (context c.args.source.context) c.args.new c.args.components.now c.args.now
    (offered c.offer_in-offer.result) c.in_ok-effect.effect
    (option_map argument c.first_argument-asked.result) c.requires.some clock c.offer_in-offer.ensures c.in_ok-effect.ensures c.first_argument-asked.ensures
