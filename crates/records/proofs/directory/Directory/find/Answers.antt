use Rattle.std.proofs.Common.{◌∙◌, ap}
use Rattle.std.specs.FinMap as map
use Rattle.records.specs.Maps.{DirectoryMap}
use Rattle.records.proofs.directory.Directory.find.Goals as goal

pub returns : goal.returns
returns c =
    let k = c.args.msisdn.now in
    (rw c.deref.ensures.value at c.find_in.ensures.value) c.self.invariant ∙ ap (λ (m : DirectoryMap). map.get m k) c.self.view_is
