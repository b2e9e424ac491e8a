use Rattle.std.proofs.Common.{refl}
use Rattle.mapctx.specs.Seen.{context}
use Rattle.mapdlg.proofs.Spelled.{requested}
use Rattle.mapdlg.proofs.portions.request_contents.Goals as goal

pub returns : goal.returns
returns c = requested (context c.args.of) _ _ _ _ _ _ _ (rw c.name_of.ensures refl)
