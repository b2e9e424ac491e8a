use Rattle.std.proofs.Common.{sym, subst}
use Rattle.records.specs.Subscriber.{Subscriber, IsPlace}
use Rattle.records.proofs.record.Record.place.Goals as goal

pub invariant_of-self : goal.invariant_of-self
invariant_of-self c = record {
  imsi = c.self.invariant.imsi;
  imsi_count = c.self.invariant.imsi_count;
  msisdn = c.self.invariant.msisdn;
  codes = c.self.invariant.codes;
  octets = c.self.invariant.octets;
  roam = c.self.invariant.roam;
  register = c.register_numbers.ensures;
  place = subst (λ (s : Subscriber). IsPlace s.withdrawn c.args.register c.args.purged c.args.current) (sym c.self.view_is) c.requires;
}
