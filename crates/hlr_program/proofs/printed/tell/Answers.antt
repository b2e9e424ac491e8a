use Rattle.std.proofs.Common.{◌≡◌, ◌++◌, ◌∷◌, [], ℕ, List, subst, ap, ◌∙◌}
use Rattle.std.proofs.lemmas.Fmt.{contents_after_writes}
use Rattle.hlr_program.specs.Printed.{WritesFront}
use Rattle.hlr_program.specs.Statuses.{message_of}
use Rattle.hlr_program.proofs.printed.tell.Goals as goal

pub returns-in-Ok : goal.returns-in-Ok
returns-in-Ok g c =
    let line : c.as_bytes.result.now ≡ message_of c.args.fault ++ 10 ∷ [] =
    c.as_bytes.ensures.value ∙ c.as_str.ensures.value ∙ contents_after_writes _ (λ s. s.bytes) (λ _ _ _ t. t) _ _ _ c.in-Ok.ensures.writes
    ∙ ap (λ (front : List ℕ). front ++ (message_of c.args.fault ++ 10 ∷ [])) c.new-line.ensures in
    subst (λ (l : List ℕ). WritesFront (g.W.Write.contents c.args.err.now) l (g.W.Write.contents c.print.new.out)) line c.print.ensures.front
