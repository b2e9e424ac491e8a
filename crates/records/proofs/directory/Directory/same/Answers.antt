use Rattle.std.proofs.lemmas.Slice.Eq.{slice_eq-Decides}
use Rattle.records.proofs.SameLemmas.{same_maps, same_pair}
use Rattle.records.proofs.directory.Directory.same.Goals as goal

pub returns : goal.returns
returns c =
    same_maps c.self.inside.entries.items c.other.inside.entries.items _ _ _ c.self.view_is c.other.view_is c.self.invariant c.other.invariant
    (slice_eq-Decides same_pair c.self.inside.entries.items c.other.inside.entries.items _ c.eq.ensures)
