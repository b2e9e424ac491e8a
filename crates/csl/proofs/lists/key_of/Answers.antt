use Rattle.std.proofs.Common.{ap, ◌∙◌, rules}
use Rattle.csl.specs.Tables.{octets_of}
use Rattle.csl.proofs.Putting.{octets_made}
use Rattle.csl.proofs.lists.key_of.Goals as goal

pub returns : goal.returns
returns c =
    ap octets_of c.from.ensures
    ∙ octets_made c.id.inside.0 c.from_le_bytes.result (search rules) (search rules) (search rules) (search rules) (search rules) c.from_le_bytes.ensures
    ∙ c.id.view_is
