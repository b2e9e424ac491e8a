use Rattle.std.proofs.Common.{refl}
use Rattle.mapctx.specs.Seen.{context}
use Rattle.mapdlg.proofs.Spelled.{answered}
use Rattle.mapdlg.proofs.portions.answer_contents.Goals as goal

pub returns : goal.returns
returns c = answered (context c.args.of) _ _ _ _ _ _ _ (rw c.name_of.ensures refl)
