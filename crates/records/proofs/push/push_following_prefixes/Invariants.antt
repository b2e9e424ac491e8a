use Rattle.std.proofs.Common.{◌≡◌, ◌++◌, take}
use Rattle.std.specs.Prelude.{string_bytes}
use Rattle.records.specs.Written.{following_prefixes}
use Rattle.records.proofs.push.push_following_prefixes.Given as goal

abbrev pub invariant-loop-prefix : goal.invariant-loop-prefix
invariant-loop-prefix l = string_bytes l.out ≡ string_bytes l.fn.out ++ following_prefixes (take l.prefix-index l.prefixes)
