use Rattle.std.proofs.Common.{◌≡◌, take, false}
use Rattle.std.specs.List.{list_any}
use Rattle.machine.specs.Keys.{is_prefix}
use Rattle.location.proofs.update.is_within.Given as goal

abbrev pub invariant-loop-prefix : goal.invariant-loop-prefix
invariant-loop-prefix l = list_any (λ prefix. is_prefix prefix l.digits) (take l.prefix-index l.prefixes) ≡ false
