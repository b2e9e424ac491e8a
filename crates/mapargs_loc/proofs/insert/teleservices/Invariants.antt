use Rattle.std.proofs.Common.{◌≡◌, map, take}
use Rattle.berwrite.specs.OwnTrees.{owns}
use Rattle.frames.specs.SentTrees.{teleservice_tree}
use Rattle.mapargs_loc.proofs.insert.teleservices.Given as goal

abbrev pub invariant-loop-code : goal.invariant-loop-code
invariant-loop-code l = owns l.elements.items ≡ map teleservice_tree (take l.code-index l.codes)
