use Rattle.std.proofs.Common.{◌≡◌, ℕ, ◌<◌, List, [], ◌∷◌, ◌++◌, true, false, length, rules, sym, ap, ◌∙◌}
use Rattle.std.specs.List.{list_any}
use Rattle.hlr_input.specs.Letters.{is_same, originating_id}
use Rattle.hlr_input.proofs.LetterLemmas.{noted_among, noted_new}
use Rattle.hlr_input.proofs.letters.Letters.note.Goals as goal

pub returns-then-is_among-clause-ok : goal.returns-then-is_among-clause-ok
returns-then-is_among-clause-ok c =
    let seen : c.deref.result.now ≡ c.args.self.now = search rules in
    let among : list_any (λ i. is_same i c.in-Some.id) c.args.self.now ≡ true = rw (← seen) (sym c.is_among.ensures ∙ c.if-is_among.true) in
    noted_among c.args.self.now c.in-Some.id (originating_id c.args.frame.now) c.in-Some.ensures among

pub returns-clause-ok : goal.returns-clause-ok
returns-clause-ok c =
    let seen : c.deref.result.now ≡ c.args.self.now = search rules in
    let new : list_any (λ i. is_same i c.in-Some.id) c.args.self.now ≡ false = rw (← seen) (sym c.is_among.ensures ∙ c.if-is_among.false) in
    let room : length c.args.self.now < 26 = search rules in
    let inside : c.self.inside.ids.items ≡ c.args.self.now = search rules in
    c.in_ok-push.ensures.items ∙ ap (λ (ids : List (List ℕ)). ids ++ c.in-Some.id ∷ []) inside
    ∙ noted_new c.args.self.now c.in-Some.id (originating_id c.args.frame.now) c.in-Some.ensures new room
