use Rattle.std.proofs.Common.{refl, inl, inr, [], ◌∷◌}
use Rattle.std.specs.Prelude.{codes as text}
use Rattle.std.specs.Fmt.{digits}
use Rattle.std.proofs.lemmas.Bool.{leb-true, ltb-true}
use Rattle.hex.specs.Hex.{decode_pairs}
use Rattle.records.specs.Reading.{codes_after, codes_in}
use Rattle.records.proofs.FieldLaws.{number_found, codes_found}
use Rattle.records.proofs.LineLaws.{imsi_found}
use Rattle.hlr_input.specs.declared.group.Group.TheVariants.{Octet}
use Rattle.hlr_input.specs.Script.{Frame, Codes, Withdraw}
use Rattle.embed.specs.Examples as example
use Rattle.embed.proofs.examples.law_log_lines.Goals as goal

pub returns : goal.returns
unfolding digits decode_pairs codes_in codes_after
returns c = record {
  frame = inl (
    Frame (example.digits (text "447700900011")) (text "6200"),
    (refl, number_found _ _ refl, refl),
    (0x62 ∷ 0 ∷ [], (Octet 0x62 ∷ Octet 0 ∷ [], (refl, (refl, tt)), refl), refl),
  );
  no_octets = inl (Frame (4 ∷ []) (text "-"), (refl, number_found _ _ refl, refl), ([], ([], refl, refl), refl));
  clock = (refl, record { written_so = refl; most = leb-true _ _ refl });
  expiry = inr (15, ltb-true _ _ refl, refl, refl);
  codes = inl (Codes (example.digits (text "234150000000001")) (0x11 ∷ 0x2A ∷ []), (refl, imsi_found _ _ refl, codes_found _ _ refl), refl);
  withdrawal = inl (Withdraw (example.digits (text "234150000000001")), (refl, imsi_found _ _ refl), refl);
}
