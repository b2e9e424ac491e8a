use Rattle.std.proofs.Common.{[], length, ap}
use Rattle.mapctx.specs.Seen.{context}
use Rattle.location.proofs.BeginLemmas.{none_go}
use Rattle.location.proofs.begin.begins.Goals as goal

pub begins_in-requires-clause-some : goal.begins_in-requires-clause-some
begins_in-requires-clause-some c = λ e.
    none_go _ (context c.in-Go.context) (c.in-Go.ensures.exact [] (ap length e))
