use Rattle.std.proofs.Common.{refl}
use Rattle.records.specs.Subscriber.{placed, as_withdrawn}
use Rattle.location.specs.declared.outcome.After.TheVariants.{Location, Withdrawn}
use Rattle.hlrcore.specs.Shards.{records_of}
use Rattle.hlrcore.proofs.RecordLemmas.{same_written, written_by}
use Rattle.hlrcore.proofs.writing.write.Goals as goal

pub returns-in-Same : goal.returns-in-Same
returns-in-Same c = same_written c.args.codes c.args.after c.args.imsi c.in-Some.imsi (records_of c.args.records.now) c.in-Some.is c.in-Same.is

pub returns-in-Location : goal.returns-in-Location
returns-in-Location c =
    written_by c.args.codes c.args.after
    (Location c.in-Location.register c.in-Location.purged c.in-Location.current) c.args.imsi c.in-Some.imsi c.args.records.now c.set.new.self
    (λ s. placed s c.in-Location.register c.in-Location.purged c.in-Location.current) c.in-Some.is c.in-Location.is (λ e. absurd (cc e)) c.requires.writable
    (λ s. refl) c.set.ensures

pub returns-in-Withdrawn : goal.returns-in-Withdrawn
returns-in-Withdrawn c =
    written_by c.args.codes c.args.after Withdrawn c.args.imsi c.in-Some.imsi c.args.records.now c.withdraw.new.self
    as_withdrawn c.in-Some.is c.in-Withdrawn.is (λ e. absurd (cc e)) c.requires.writable (λ s. refl) c.withdraw.ensures
