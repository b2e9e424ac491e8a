use Rattle.std.proofs.Common.{◌≡◌, ◌/◌, ℕ, List, length, arith, rules, sym, ap, ◌∙◌}
use Rattle.std.specs.Prelude.{Ok}
use Rattle.hlr_input.proofs.LotLemmas.{read_all, written_back}
use Rattle.hlr_input.proofs.frame_octets.digit_octets.Goals as goal

pub returns-clause-read : goal.returns-clause-read
returns-clause-read c =
    let room : c.resize.new.self.len ≡ length c.args.digits.now / 2 = search rules in
    let own : length c.write_octets.new.octets ≡ c.resize.new.self.len = omega (arith, room, c.write_octets.ensures.half) in
    read_all c.args.digits.now c.write_octets.new.octets c.requires.even c.requires.all c.write_octets.ensures
    ∙ ap (λ (os : List ℕ). Ok os) (sym (written_back c.write_octets.new.octets c.resize.new.self.items c.resize.new.self.len own))
