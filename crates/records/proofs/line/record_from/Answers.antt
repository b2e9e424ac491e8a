use Rattle.std.proofs.Common.{◌≡◌, sym, ap, ◌∙◌, subst, false}
use Rattle.std.specs.Prelude.{Some, option_map, ◌&&◌, is_some}
use Rattle.std.specs.Result.{result_ok}
use Rattle.hlr_types.specs.Identities.{imsi_from}
use Rattle.records.specs.Subscriber.{AreOctets}
use Rattle.records.specs.Roam.{prefixes_of}
use Rattle.records.specs.Reading.{codes_in, roam_in, register_in}
use Rattle.records.proofs.Facts.{fields_keep}
use Rattle.records.proofs.line.record_from.Goals as goal

pub invariant_of-result : goal.invariant_of-result
invariant_of-result c =
    let f = c.args.fields in
    let imsi : result_ok (imsi_from f.imsi) ≡ Some c.in-Ok.imsi = ap result_ok (sym c.in-Ok.ensures) in
    let codes : codes_in f.codes.now ≡ Some c.in-Some.codes = sym c.in-Some.ensures in
    let roam : roam_in f.roam.now ≡ Some (prefixes_of c.in-Some-2.roam) = sym c.in_ok-roam.ensures ∙ ap (option_map prefixes_of) c.in-Some-2.is in
    let register : register_in f.register.now
    ≡ Some (c.in-Some-register_field.register, c.in-Some-register_field.purged) = sym c.in-Some-register_field.ensures in
    let left : (c.args.withdrawn && is_some c.in-Some-register_field.register) ≡ false = sym c.has_stayed.ensures ∙ c.if-has_stayed.false in
    rw c.new.ensures (fields_keep f.imsi f.msisdn f.codes.now f.roam.now f.register.now c.args.withdrawn _ _ _ _ _ c.requires.imsi c.requires.msisdn
    imsi codes roam register left (subst AreOctets c.as_slice.ensures.value c.are_octets.ensures) c.register_numbers.ensures)
