use Rattle.std.proofs.Common.{◌≡◌, ◌++◌, take}
use Rattle.std.specs.Prelude.{string_bytes}
use Rattle.records.specs.Written.{following_codes}
use Rattle.records.proofs.push.push_following_codes.Given as goal

abbrev pub invariant-loop-code : goal.invariant-loop-code
invariant-loop-code l = string_bytes l.out ≡ string_bytes l.fn.out ++ following_codes (take l.code-index l.codes)
