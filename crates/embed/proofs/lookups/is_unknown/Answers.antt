use Rattle.embed.proofs.LookupLemmas.{unknown}
use Rattle.embed.proofs.lookups.is_unknown.Goals as goal

pub returns : goal.returns
returns c = unknown c.record_of.result c.is_none.result _ c.record_of.ensures.whole c.is_none.ensures
