-- How contracts see a record.
use Rattle.records.specs.declared.record.Record.TheInside.{Inside}
use Rattle.records.specs.Subscriber.{Subscriber}
use Rattle.records.specs.Roam.{prefixes_of}

abbrev pub seen : Inside → Subscriber
seen r = record {
  imsi = r.imsi;
  msisdn = r.msisdn;
  codes = r.codes;
  roam = prefixes_of r.roam;
  register = r.register;
  purged = r.purged;
  current = r.current;
  withdrawn = r.withdrawn;
}
