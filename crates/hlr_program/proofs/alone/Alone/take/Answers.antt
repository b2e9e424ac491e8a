use Rattle.std.proofs.Common.{◌≡◌, ◌++◌, ◌∷◌, [], map, ap, subst, ◌∙◌, rules}
use Rattle.std.proofs.lemmas.List.{map-append}
use Rattle.hlrcore.specs.Events.{raw_event}
use Rattle.hlr_program.specs.declared.register.Register.TheVariants.{Alone}
use Rattle.hlr_program.specs.Gathered.{with_part}
use Rattle.hlr_program.specs.Gathering.{Adds, Progress, progress}
use Rattle.hlr_program.proofs.GatherLemmas.{adds_join, adds_none}
use Rattle.hlr_program.proofs.LotLemmas.{gathered_more}
use Rattle.hlr_program.proofs.alone.Alone.take.Goals as goal
use Rattle.hlr_program.proofs.alone.Alone.take.Goals.{then-len-lot_of+in_ok-run, else-len-lot_of}

pub returns-clause-adds : goal.returns-clause-adds
returns-clause-adds c =
    let here : Progress = progress (Alone c.if-len-lot_of.self) c.if-len-lot_of.answers in
    let start : Progress = progress (Alone c.args.self.now) c.args.answers.now in
    let room : Adds start [] here = elim c.if-len-lot_of.branch [
      | then-len-lot_of+in_ok-run w ↦
          let same : progress (Alone w.run.new.self) w.run.new.answers ≡ here = cc in subst (λ (p : Progress). Adds start [] p) same w.in_ok-run.ensures.adds
      | else-len-lot_of w ↦ let same : start ≡ here = cc in subst (λ (p : Progress). Adds start [] p) same (adds_none start)
    ] in
    let put : c.push.new.self.items ≡ c.self-2.inside.gathered.items ++ c.args.raw ∷ [] = search rules in
    adds_join start here (progress (Alone (with_part c.self-2.inside.node (map raw_event c.push.new.self.items))) c.if-len-lot_of.answers) []
    (raw_event c.args.raw ∷ []) room
    (gathered_more c.if-len-lot_of.self c.self-2.inside.node (map raw_event c.self-2.inside.gathered.items) (map raw_event c.push.new.self.items)
    (raw_event c.args.raw) c.if-len-lot_of.answers c.self-2.view_is
    (ap (map raw_event) put ∙ map-append raw_event c.self-2.inside.gathered.items (c.args.raw ∷ [])))
