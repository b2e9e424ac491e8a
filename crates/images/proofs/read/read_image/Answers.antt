use Rattle.std.proofs.Common.{List, Ok, Option, Vec, Global, sym, ap, ◌∙◌, subst}
use Rattle.std.specs.declared.alloc.AllocError.{AllocError}
use Rattle.texts.specs.Lines.{lines}
use Rattle.texts.proofs.LinesLemmas.{lines_nil}
use Rattle.image_lines.specs.Lines.{Line}
use Rattle.image_lines.specs.Seen.{line_of}
use Rattle.images.specs.declared.so_far.Image as code_image
use Rattle.images.specs.Fits.{IsFitImage}
use Rattle.hlrcore.specs.Shards.{ShardState}
use Rattle.images.specs.Reading.{IsWhole, TakesLine}
use Rattle.images.specs.Seen.{EndsAs, TakesNext, seen_image}
use Rattle.images.proofs.OnlyLemmas.{no_end, no_fault}
use Rattle.images.proofs.SameLemmas.{image_same}
use Rattle.images.proofs.ReadLemmas.{begins_so, fault_at, is_none, none_next, not_read, one_more, read_as, short_at, whole_at}
use Rattle.images.proofs.read.read_image.Goals as goal

pub lines-init : goal.lines-init
lines-init c = record {
  so = begins_so c.args.text.now c.new-lines.result.rest.now c.args.shards.items (seen_image c.in-Some.image) c.new-lines.result.before
      c.new-lines.ensures.whole c.new-lines.ensures.first c.in-Some.ensures.start;
  fits = c.in-Some.ensures.fits;
}

pub returns-in_default-read_line-clause-fault : goal.returns-in_default-read_line-clause-fault
returns-in_default-read_line-clause-fault c =
    fault_at c.args.text.now c.lines.lines.rest.now c.in-Some-next.rest.rest.now c.in-Some-next.line.text.now c.args.shards.items
    (seen_image c.lines.image) c.lines.lines.before c.in-Some-next.line.number c.lines.invariant.so c.in-Some-next.ensures.line c.in-Some-next.ensures.number
    (λ it after is text takes. not_read c.read_line.result it c.in_default-read_line.not-Some (c.read_line.ensures.only it is text))

pub returns-in_default-read_line-clause-only : goal.returns-in_default-read_line-clause-only
unfolding returns-in_default-read_line-clause-fault
returns-in_default-read_line-clause-only c = λ whole is.
    absurd (no_fault c.args.text.now c.args.shards.items whole _ is (returns-in_default-read_line-clause-fault c))

pub returns-in_default-2-clause-fault : goal.returns-in_default-2-clause-fault
returns-in_default-2-clause-fault c =
    let read = line_of c.in-Some-read_line.read in
    fault_at c.args.text.now c.lines.lines.rest.now c.in-Some-next.rest.rest.now c.in-Some-next.line.text.now c.args.shards.items
    (seen_image c.lines.image) c.lines.lines.before c.in-Some-next.line.number c.lines.invariant.so c.in-Some-next.ensures.line c.in-Some-next.ensures.number
    (λ it after is text takes.
    let P : Line → Type 0 = λ z. TakesLine (seen_image c.lines.image) z after in
    let is_read = read_as c.read_line.result c.in-Some-read_line.read it c.in-Some-read_line.is (c.read_line.ensures.only it is text) in
    none_next (TakesLine (seen_image c.lines.image) read) c.in_ok-next.field-0 c.in_default-2.not-Some c.in_ok-next.ensures after
    (subst P (sym is_read) takes))

pub returns-in_default-2-clause-only : goal.returns-in_default-2-clause-only
unfolding returns-in_default-2-clause-fault
returns-in_default-2-clause-only c = λ whole is.
    absurd (no_fault c.args.text.now c.args.shards.items whole _ is (returns-in_default-2-clause-fault c))

pub lines-preserved : goal.lines-preserved
lines-preserved c =
    let P : Option code_image.Image → Type 0 = λ z. TakesNext {E = AllocError} (TakesLine (seen_image c.lines.image) (line_of c.in-Some-read_line.read)) (Ok z) in
    let t : TakesLine (seen_image c.lines.image) (line_of c.in-Some-read_line.read) (seen_image c.in-Some-2.next) × IsFitImage c.in-Some-2.next =
    subst P c.in-Some-2.is c.in_ok-next.ensures in
    record {
      so = one_more c.args.text.now c.lines.lines.rest.now c.in-Some-next.rest.rest.now c.in-Some-next.line.text.now c.args.shards.items
          (seen_image c.lines.image) (seen_image c.in-Some-2.next) c.lines.lines.before c.in-Some-next.rest.before (line_of c.in-Some-read_line.read)
          c.lines.invariant.so c.in-Some-next.ensures.line c.in-Some-next.ensures.before c.in-Some-read_line.ensures.bounded
          c.in-Some-read_line.ensures.found t.0;
      fits = t.1;
    }

pub returns-in-Some-3-clause-read : goal.returns-in-Some-3-clause-read
returns-in-Some-3-clause-read c =
    let end = c.next.ensures.end.0 (is_none c.next.result c.in_default-next.not-Some) in
    let P : Option (Vec ShardState Global) → Type 0 = λ z. EndsAs {E = AllocError} (λ (v : Vec ShardState Global). v.items) (IsWhole (seen_image c.lines.image)) (Ok z) in
    let whole : IsWhole (seen_image c.lines.image) c.in-Some-3.whole.items = subst P c.in-Some-3.is c.in_ok-whole.ensures in
    whole_at c.args.text.now c.lines.lines.rest.now c.args.shards.items c.in-Some-3.whole.items (seen_image c.lines.image) c.lines.lines.before
    c.lines.invariant.so (ap lines end ∙ lines_nil) whole

pub returns-in-None-clause-fault : goal.returns-in-None-clause-fault
returns-in-None-clause-fault c =
    let end = c.next.ensures.end.0 (is_none c.next.result c.in_default-next.not-Some) in
    let P : Option (Vec ShardState Global) → Type 0 = λ z. EndsAs {E = AllocError} (λ (v : Vec ShardState Global). v.items) (IsWhole (seen_image c.lines.image)) (Ok z) in
    let never : (shards : List ShardState) → IsWhole (seen_image c.lines.image) shards → ⊥ = subst P c.in-None.is c.in_ok-whole.ensures in
    short_at c.args.text.now c.lines.lines.rest.now c.args.shards.items (seen_image c.lines.image) c.lines.lines.before
    c.lines.invariant.so (ap lines end ∙ lines_nil) never

pub returns-in-None-clause-only : goal.returns-in-None-clause-only
unfolding returns-in-None-clause-fault
returns-in-None-clause-only c = λ whole is. absurd (no_end c.args.text.now c.args.shards.items whole is (returns-in-None-clause-fault c))

pub returns-in-Some-3-clause-same : goal.returns-in-Some-3-clause-same
unfolding returns-in-Some-3-clause-read
returns-in-Some-3-clause-same c =
    image_same c.args.text.now c.args.shards.items c.in-Some-3.whole.items (returns-in-Some-3-clause-read c)
