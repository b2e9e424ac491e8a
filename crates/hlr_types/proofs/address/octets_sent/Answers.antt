use Rattle.std.proofs.Common.{◌≡◌, ◌∷◌, ◌++◌, [], List, ℕ, append-nil, take, ap, ◌∙◌}
use Rattle.hlr_types.specs.declared.address.TheConstants.{INTERNATIONAL_E164}
use Rattle.hlr_types.proofs.PaddingLemmas.{taken_behind}
use Rattle.hlr_types.proofs.address.octets_sent.Goals as goal

pub returns-clause-value : goal.returns-clause-value
returns-clause-value c =
    let taken : take c.len.result (c.copy_from_slice.new.self ++ []) ≡ c.tbcd_write-tbcd.result =
    ap (take c.len.result) (append-nil c.copy_from_slice.new.self ∙ c.copy_from_slice.ensures.after)
    ∙ ap (λ (n : ℕ). take n c.padded.result.now) c.len.ensures ∙ c.padded.ensures.value in
    c.of_parts.ensures ∙ taken_behind c.len.result INTERNATIONAL_E164 (c.copy_from_slice.new.self ++ []) c.tbcd_write-tbcd.result taken
    ∙ ap (λ (l : List ℕ). INTERNATIONAL_E164 ∷ l) c.tbcd_write-tbcd.ensures.value
