use Rattle.std.proofs.Common.{◌≡◌, ◌∷◌, Option, sym, ◌∙◌, subst}
use Rattle.hlrcore.specs.Shards.{ShardState}
use Rattle.image_lines.specs.Seen.{line_of}
use Rattle.images.specs.declared.so_far.Reading as code
use Rattle.images.specs.Fits.{IsFit}
use Rattle.images.specs.Reading.{Begins, Ends, Reading, Takes, reading}
use Rattle.images.specs.Seen.{EndsIf, TakesIf, seen}
use Rattle.images.proofs.NextLemmas.{head_is, refuses, rest_begin}
use Rattle.images.proofs.so_far.Image.begin_next.Goals as goal

pub returns-in_default-2 : goal.returns-in_default-2
returns-in_default-2 c = λ im next.
    let later : c.args.self.later.items ≡ c.in-Some-pop_front.next ∷ c.pop_front.new.self.items = c.in-Some-pop_front.ensures.items in
    let s_is : next.1 ≡ c.in-Some-pop_front.next = head_is next.1 c.in-Some-pop_front.next next.2 c.pop_front.new.self.items (sym next.5 ∙ later) in
    let P : ShardState → Type 0 = λ z. Takes (reading z Begins) (line_of c.args.line) next.3 in
    let Q : Reading → Type 0 = λ z. Takes z (line_of c.args.line) next.3 in
    let taken : Takes (seen c.new.result) (line_of c.args.line) next.3 = subst Q (sym c.new.ensures.seen) (subst P s_is next.6) in
    refuses (Takes (seen c.new.result) (line_of c.args.line)) c.in_ok-now.field-0 c.in_default-2.not-Some c.in_ok-now.ensures next.3 taken

pub returns : goal.returns
returns c =
    let later : c.args.self.later.items ≡ c.in-Some-pop_front.next ∷ c.pop_front.new.self.items = c.in-Some-pop_front.ensures.items in
    let E : Option ShardState → Type 0 = λ z. EndsIf (λ (t : ShardState). t) (Ends (seen c.args.self.now)) z in
    let ends : Ends (seen c.args.self.now) c.in-Some.whole = subst E c.in-Some.is c.end.ensures in
    let P : Option code.Reading → Type 0 = λ z. TakesIf (Takes (seen c.new.result) (line_of c.args.line)) z in
    let t : Takes (seen c.new.result) (line_of c.args.line) (seen c.in-Some-2.now) × IsFit c.in-Some-2.now = subst P c.in-Some-2.is c.in_ok-now.ensures in
    let Q : Reading → Type 0 = λ z. Takes z (line_of c.args.line) (seen c.in-Some-2.now) in
    let taken : Takes (reading c.in-Some-pop_front.next Begins) (line_of c.args.line) (seen c.in-Some-2.now) = subst Q c.new.ensures.seen t.0 in
    let rest = rest_begin c.args.self.later.items c.pop_front.new.self.items c.in-Some-pop_front.next later c.requires.fits.1 in (
      (
        c.in-Some.whole,
        c.in-Some-pop_front.next,
        c.pop_front.new.self.items,
        seen c.in-Some-2.now,
        ends,
        later,
        taken,
        λ i. record { done = c.in_ok-push.ensures.items i; now = seen c.in-Some-2.now; later = c.pop_front.new.self.items },
      ),
      (t.1, rest.1),
    )
