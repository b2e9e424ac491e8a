use Rattle.std.proofs.Common.{[], ◌∷◌, inl, refl, arith}
use Rattle.x690.specs.declared.Tag.{Tag}
use Rattle.bertree.proofs.Heads.{small-found, element-found}
use Rattle.bertree.proofs.head.read_short_element.Goals as goal

pub returns : goal.returns
returns c =
    let l = c.leading_of-class in
    let tag : Tag = record { class = l.result.0; constructed = l.result.1; number = c.from-number.result } in
    let found = small-found tag _ _ _ c.in_ok-first.ensures.some (omega arith) (omega arith) (omega arith) in
    element-found _ tag _ _ _ _ _ _ found.0 refl found.1
    (c.in_ok-length.length ∷ [], inl (omega arith, refl, omega arith), c.in_ok-length.ensures.some)
    c.split_at.ensures.by_index.0 c.split_at.ensures.front_len
