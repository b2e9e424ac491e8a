use Rattle.std.proofs.Common.{sym, subst}
use Rattle.records.specs.Fresh.{AreFresh}
use Rattle.records.proofs.FreshLemmas.{fresh_empty}
use Rattle.records.proofs.loaded.Loading.with_room.Goals as goal

pub invariant_of-result : goal.invariant_of-result
invariant_of-result c = subst AreFresh (sym c.in_ok-with_room.ensures) fresh_empty
