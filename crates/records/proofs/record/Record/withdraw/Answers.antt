use Rattle.std.proofs.Common.{refl}
use Rattle.records.proofs.record.Record.withdraw.Goals as goal

pub invariant_of-self : goal.invariant_of-self
invariant_of-self c = record {
  imsi = c.self.invariant.imsi;
  imsi_count = c.self.invariant.imsi_count;
  msisdn = c.self.invariant.msisdn;
  codes = c.self.invariant.codes;
  octets = c.self.invariant.octets;
  roam = c.self.invariant.roam;
  register = tt;
  place = record { purged = λ _. refl; left = λ _. refl; unmarked = λ _. refl };
}
