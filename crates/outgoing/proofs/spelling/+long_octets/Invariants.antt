use Rattle.std.proofs.Common.{◌-◌, ◌^◌}
use Rattle.outgoing.proofs.spelling.+long_octets.Given as goal

abbrev pub decreases-long_octets : goal.decreases-long_octets
decreases-long_octets l = 2 ^ 63 - l.size
