use Rattle.std.proofs.Common.{refl}
use Rattle.std.specs.Fmt.{digits}
use Rattle.std.proofs.lemmas.Bool.{leb-true}
use Rattle.hex.specs.Hex.{decode_pairs}
use Rattle.records.specs.Reading.{codes_after, codes_in}
use Rattle.records.proofs.FieldLaws.{number_found, codes_found}
use Rattle.records.proofs.LineLaws.{imsi_found}
use Rattle.hlr_input.proofs.examples.law_script_lines.Goals as goal

pub returns : goal.returns
unfolding digits decode_pairs codes_in codes_after
returns c = record {
  frame = (refl, number_found _ _ refl, refl);
  clock = (refl, record { written_so = refl; most = leb-true _ _ refl });
  expiry = refl;
  batch = refl;
  codes = (refl, imsi_found _ _ refl, codes_found _ _ refl);
  withdrawal = (refl, imsi_found _ _ refl);
}
