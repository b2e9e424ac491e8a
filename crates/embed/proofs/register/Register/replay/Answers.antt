use Rattle.std.proofs.Common.{◌≡◌, ℕ, List, ◌∷◌, Option, refl, ap, ◌∙◌}
use Rattle.std.specs.Prelude.{option_map}
use Rattle.texts.specs.Lines.{parts, parts_left}
use Rattle.embed.proofs.ReplayLemmas.{goes_on, not_none, stops}
use Rattle.embed.proofs.register.Register.replay.Goals as goal

pub lines-preserved : goal.lines-preserved
lines-preserved c =
    let line = c.cut.result.0.now in
    let is : parts 10 c.lines.left.now ≡ line ∷ parts 10 c.in-Some.rest.now =
    c.cut.ensures.parts ∙ ap (λ (o : Option (List ℕ)). line ∷ parts_left 10 o) (ap (option_map (λ x. x.now)) c.in-Some.is) in
    goes_on c.args.self.now c.args.text.now c.lines.self c.lines.left.now c.lines.number line c.in-Some.rest.now c.replay_line.new.self
    c.lines.invariant is c.in_default-replay_line.ensures.does

pub returns-in-Err-clause-stops : goal.returns-in-Err-clause-stops
returns-in-Err-clause-stops c =
    let line = c.cut.result.0.now in
    let is : parts 10 c.lines.left.now ≡ line ∷ parts 10 c.in-Some.rest.now =
    c.cut.ensures.parts ∙ ap (λ (o : Option (List ℕ)). line ∷ parts_left 10 o) (ap (option_map (λ x. x.now)) c.in-Some.is) in
    stops c.args.self.now c.args.text.now c.lines.self c.lines.left.now c.lines.number line c.in-Some.rest.now _ c.replay_line.new.self
    c.lines.invariant is refl refl c.in-Err.ensures.fails c.in-Err.ensures.err

pub returns-in-Err-clause-only : goal.returns-in-Err-clause-only
returns-in-Err-clause-only c = λ all none. not_none c.args.self.now _ _ c.replay_line.new.self (returns-in-Err-clause-stops c) all none
