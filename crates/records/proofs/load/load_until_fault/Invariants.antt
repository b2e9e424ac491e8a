use Rattle.std.proofs.Common.{◌+◌, ◌≤◌, length}
use Rattle.texts.specs.Lines.{lines}
use Rattle.records.proofs.LoadLemmas.{IsAtLine}
use Rattle.records.proofs.load.load_until_fault.Given as goal

abbrev pub invariant-loop-rest : goal.invariant-loop-rest
invariant-loop-rest l = IsAtLine l.version l.loading l.fn.hlr (l.before + 1) (lines l.rest) (lines l.fn.text)
    × (l.before + length l.rest ≤ length l.fn.text + 1)

abbrev pub decreases-loop-rest : goal.decreases-loop-rest
decreases-loop-rest l = length l.rest
