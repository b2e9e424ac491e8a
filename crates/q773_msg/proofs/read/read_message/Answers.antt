use Rattle.std.proofs.Common.{sym, ◌∙◌}
use Rattle.frames.proofs.PointLaws.{message_or_not_found, message_or_not_again}
use Rattle.q773_msg.proofs.Forms.{found, refused}
use Rattle.q773_msg.proofs.read.read_message.Goals as goal

pub returns-clause-found : goal.returns-clause-found
returns-clause-found c = found _ _ (message_or_not_found _ _ (sym c.by_tag.ensures))

pub returns-clause-refused : goal.returns-clause-refused
returns-clause-refused c = refused _ _ (message_or_not_found _ _ (sym c.by_tag.ensures))

pub returns-clause-only : goal.returns-clause-only
returns-clause-only c = λ r is. c.by_tag.ensures ∙ message_or_not_again _ r is
