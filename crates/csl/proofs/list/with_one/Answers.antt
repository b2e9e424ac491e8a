use Rattle.std.proofs.Common.{◌++◌, ◌∷◌, [], ap, ◌∙◌, append_assoc, take, drop, length, arith}
use Rattle.std.proofs.lemmas.List.{take_all, length-drop}
use Rattle.std.specs.Option.{unwrap_or}
use Rattle.csl.proofs.Places.{with_one_at}
use Rattle.csl.proofs.list.with_one.Goals as goal

pub returns : goal.returns
returns c =
    let front = take c.unwrap_or-place.result c.args.list.now in
    let back = drop c.unwrap_or-place.result c.args.list.now in
    c.in_ok-extend_from_slice-2.ensures.ok
    ∙ ap (λ us. c.push.new.self.items ++ us) (take_all _ back (omega (arith, length-drop c.unwrap_or-place.result c.args.list.now)))
    ∙ ap (λ us. us ++ back) (c.in_ok-push.ensures.ok ∙ ap (λ us. us ++ c.args.own ∷ [])
    (c.in_ok-extend_from_slice.ensures.ok ∙ ap (λ us. us ++ front) c.in_ok-longer.ensures.items))
    ∙ append_assoc front (c.args.own ∷ []) back
    ∙ with_one_at c.args.own c.args.list.now c.unwrap_or-place.result
    (c.unwrap_or-place.ensures ∙ ap (λ o. unwrap_or o (length c.args.list.now)) c.place_above.ensures)
