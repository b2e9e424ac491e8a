-- The frames that a step sends, as in an entry of a journal.
use Rattle.std.specs.Prelude.{ℕ, List, refl}
use Rattle.std.specs.Coded.{Coded, code_by, coded×, coded_list, coded_ℕ}
use Rattle.frames.specs.Octets.{RawOut}
use Rattle.hlrcore.specs.declared.answer.Out.{Out}

abbrev pub raw_out : Out → RawOut
raw_out out = record { to = out.to; octets = out.octets.items }

abbrev pub raw_out_code : Coded RawOut
raw_out_code =
    code_by (List ℕ × List ℕ) (coded× (coded_list coded_ℕ) (coded_list coded_ℕ))
    (λ o. (o.to, o.octets)) (λ p. record { to = p.0; octets = p.1 }) (λ _. refl)
