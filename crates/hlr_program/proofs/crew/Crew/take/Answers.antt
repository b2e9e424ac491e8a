use Rattle.std.proofs.Common.{◌≡◌, ◌++◌, ◌∷◌, [], map, ap, subst, ◌∙◌, rules}
use Rattle.std.proofs.lemmas.List.{map-append}
use Rattle.hlrcore.specs.Events.{raw_event}
use Rattle.hlr_program.specs.declared.register.Register.TheVariants.{Shared}
use Rattle.hlr_program.specs.Gathered.{with_part}
use Rattle.hlr_program.specs.Gathering.{Adds, Progress, progress}
use Rattle.hlr_program.proofs.GatherLemmas.{adds_join, adds_none}
use Rattle.hlr_program.proofs.LotLemmas.{shared_more}
use Rattle.hlr_program.proofs.crew.Crew.take.Goals as goal
use Rattle.hlr_program.proofs.crew.Crew.take.Goals.{then-len-ge-MAX_ENTRIES+in_ok-run, else-len-ge-MAX_ENTRIES}

pub returns-clause-adds : goal.returns-clause-adds
returns-clause-adds g c =
    let here : Progress = progress (Shared c.if-len-ge-MAX_ENTRIES.self) c.if-len-ge-MAX_ENTRIES.answers in
    let start : Progress = progress (Shared c.args.self.now) c.args.answers.now in
    let room : Adds start [] here = elim c.if-len-ge-MAX_ENTRIES.branch [
      | then-len-ge-MAX_ENTRIES+in_ok-run w ↦
          let same : progress (Shared w.run.new.self) w.run.new.answers ≡ here = cc in subst (λ (p : Progress). Adds start [] p) same w.in_ok-run.ensures.adds
      | else-len-ge-MAX_ENTRIES w ↦ let same : start ≡ here = cc in subst (λ (p : Progress). Adds start [] p) same (adds_none start)
    ] in
    let put : c.push.new.self.items ≡ c.self-2.inside.part.items ++ c.args.raw ∷ [] = search rules in
    adds_join start here (progress (Shared (with_part c.self-2.inside.register (map raw_event c.push.new.self.items))) c.if-len-ge-MAX_ENTRIES.answers) []
    (raw_event c.args.raw ∷ []) room
    (shared_more c.if-len-ge-MAX_ENTRIES.self c.self-2.inside.register (map raw_event c.self-2.inside.part.items) (map raw_event c.push.new.self.items)
    (raw_event c.args.raw) c.if-len-ge-MAX_ENTRIES.answers c.self-2.view_is
    (ap (map raw_event) put ∙ map-append raw_event c.self-2.inside.part.items (c.args.raw ∷ [])))
