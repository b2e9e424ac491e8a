use Rattle.std.proofs.Common.{◌≡◌, ℕ, ◌*◌, List, take, drop, rules, ap, ◌∙◌, subst}
use Rattle.hlr_input.specs.Digits.{AreOctetsOf}
use Rattle.hlr_input.proofs.LotLemmas.{put_lot, rest_of}
use Rattle.hlr_input.proofs.frame_octets.write_lot.Goals as goal

pub returns-clause-written : goal.returns-clause-written
returns-clause-written c =
    let found = rw c.unwrap.ensures at c.split_first_chunk.ensures.cases in
    let chunk : c.unwrap.result.0.now ≡ take 32 (drop (2 * c.args.place) c.args.digits.now) =
    found.0 ∙ ap (λ (ds : List ℕ). take 32 ds) (rest_of c.args.digits.now (2 * c.args.place)) in
    let lot = subst (λ (ds : List ℕ). AreOctetsOf ds c.octets_of_lot.result) chunk c.octets_of_lot.ensures in
    put_lot c.args.digits.now c.args.octets.now c.copy_from_slice.new.self _ c.args.place c.requires.room (search rules)
    (subst (λ (os : List ℕ). AreOctetsOf (take 32 (drop (2 * c.args.place) c.args.digits.now)) os) (search rules) lot)
