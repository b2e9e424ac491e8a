use Rattle.std.proofs.Common.{◌≡◌, take}
use Rattle.hlr_types.proofs.short_list.ShortList.from_slice.Given as goal

abbrev pub invariant-loop-octet : goal.invariant-loop-octet
invariant-loop-octet g l = l.list ≡ take l.octet-index l.octets
