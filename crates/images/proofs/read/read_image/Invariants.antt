use Rattle.std.proofs.Common.{length}
use Rattle.images.specs.Fits.{IsFitImage}
use Rattle.images.specs.Seen.{seen_image}
use Rattle.images.proofs.ReadLemmas.{IsReadSo}
use Rattle.images.proofs.read.read_image.Given as goal

abbrev pub invariant-lines : goal.invariant-lines
invariant-lines l = record {
  so : IsReadSo l.fn.text l.fn.shards.items (seen_image l.image) l.lines.rest.now l.lines.before;
  fits : IsFitImage l.image;
}

abbrev pub decreases-lines : goal.decreases-lines
decreases-lines l = length l.lines.rest.now
