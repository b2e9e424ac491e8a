use Rattle.std.proofs.Common.{Option, refl, subst}
use Rattle.image_lines.specs.Seen.{line_of}
use Rattle.images.specs.declared.so_far.Reading as code
use Rattle.images.specs.Fits.{IsFit}
use Rattle.images.specs.Reading.{Takes}
use Rattle.images.specs.Seen.{TakesIf, seen}
use Rattle.images.proofs.so_far.Image.go_on.Goals as goal

pub returns : goal.returns
returns c =
    let P : Option code.Reading → Type 0 = λ z. TakesIf (Takes (seen c.args.self.now) (line_of c.args.line)) z in
    let t : Takes (seen c.args.self.now) (line_of c.args.line) (seen c.in-Some.now) × IsFit c.in-Some.now = subst P c.in-Some.is c.in_ok-now.ensures in
    ((seen c.in-Some.now, t.0, refl), (t.1, c.requires.fits.1))
