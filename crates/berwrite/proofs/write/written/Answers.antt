use Rattle.std.proofs.Common.{◌++◌, ◌∙◌, ap, subst, sym, ℕ, List, length, ◌<◌, ◌^◌}
use Rattle.x690.specs.Spelling.{Spells, enc}
use Rattle.x690.proofs.Spellings.{enc_spells}
use Rattle.berwrite.specs.OwnTrees.{own}
use Rattle.berwrite.proofs.write.written.Goals as goal

pub returns-clause-spelling : goal.returns-clause-spelling
returns-clause-spelling g c = λ short tags.
    let tree = own c.args.tree.now in
    let made = c.in_ok-from_slice.ensures.items ∙ c.deref.ensures.value ∙ c.in_ok-put.ensures
    ∙ ap (λ (octets : List ℕ). octets ++ enc tree) c.in_ok-octets.ensures.items in
    let fits : length (enc tree) < 2 ^ 32 = subst (λ (octets : List ℕ). length octets < 2 ^ 32) made short in
    subst (λ (octets : List ℕ). Spells octets tree) (sym made) (enc_spells tree tags fits)
