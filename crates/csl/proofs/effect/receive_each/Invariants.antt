use Rattle.std.proofs.Common.{◌+◌, map, take}
use Rattle.q773_comp.specs.Seen.{rejection}
use Rattle.csl.specs.Seen.{heard}
use Rattle.csl.specs.Effects.{offered}
use Rattle.csl.proofs.Hearing.{AreHeard}
use Rattle.csl.proofs.effect.receive_each.Given as goal

abbrev pub invariant-loop-component : goal.invariant-loop-component
invariant-loop-component g l = AreHeard {P = g.row.P.Denot} l.now (offered l.offer) l.fn.list.items (map heard (take (l.component-index + 1) l.components))
    l.list.items (map rejection l.rejects.items) l.has_failed
