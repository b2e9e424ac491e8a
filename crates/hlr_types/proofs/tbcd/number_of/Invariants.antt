use Rattle.std.proofs.Common.{take}
use Rattle.hlr_types.proofs.ReadLemmas.{IsNumber}
use Rattle.hlr_types.proofs.tbcd.number_of.Given as goal

abbrev pub invariant-loop-octet : goal.invariant-loop-octet
invariant-loop-octet l = IsNumber l.number (take l.octet-index l.octets)
