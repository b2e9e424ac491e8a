use Rattle.std.proofs.Common.{◌≡◌, sym, ◌∙◌, true≢false}
use Rattle.image_lines.specs.Seen.{line_of}
use Rattle.images.specs.Reading.{Whole}
use Rattle.images.specs.Seen.{seen_image, stage_of}
use Rattle.images.proofs.NextLemmas.{by_next, by_same, none_follows, not_ended}
use Rattle.images.proofs.so_far.Image.take.Goals as goal

pub returns-then-is_whole : goal.returns-then-is_whole
returns-then-is_whole c =
    let now = c.args.self.now in
    by_next (seen_image c.args.self) (line_of c.args.line) c.begin_next.result
    (λ x takes. none_follows now.state (stage_of now.stage) (line_of c.args.line) x (c.is_whole.ensures.0 c.if-is_whole.true) takes)
    c.begin_next.ensures

pub returns-else-is_whole : goal.returns-else-is_whole
returns-else-is_whole c =
    let now = c.args.self.now in
    let open_yet = λ (e : stage_of now.stage ≡ Whole). true≢false (sym (c.is_whole.ensures.1 e) ∙ c.if-is_whole.false) in
    by_same (seen_image c.args.self) (line_of c.args.line) c.go_on.result
    (λ t ends. not_ended now.state (stage_of now.stage) t open_yet ends) c.go_on.ensures
