use Rattle.std.proofs.Common.{◌≡◌, ◌++◌, map, take}
use Rattle.std.specs.List.{flat_map}
use Rattle.std.specs.Prelude.{string_bytes}
use Rattle.audit.specs.Gathered.{told_back}
use Rattle.audit.specs.Lines.{invocation_text}
use Rattle.audit.proofs.listed.push_invocations.Given as goal

abbrev pub invariant-loop-invoke : goal.invariant-loop-invoke
invariant-loop-invoke l = string_bytes l.text ≡ string_bytes l.fn.text ++ flat_map invocation_text
    (map told_back (take l.invoke-index l.told))
