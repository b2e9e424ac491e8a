-- A result that has its tree's form, by its value.
use Rattle.std.specs.Prelude.{Result, Ok, Err, IfOk, IfErr}
use Rattle.x690.specs.Tree.{Tree}
use Rattle.frames.specs.MessageForms.{IsMessage}
use Rattle.frames.specs.Points.{message_points, IsSaidFirst, IsMessageOrNot}
use Rattle.q773_msg.specs.declared.message.Message.{Message}
use Rattle.q773_msg.specs.declared.message.Unread.{Unread}
use Rattle.q773_msg.specs.Seen.{message, unread, answer}

pub found : (t : Tree) (r : Result Message Unread) → IsMessageOrNot t (answer r) → IfOk r (λ m. IsMessage t (message m))
found t (Ok m) h = h
found t (Err u) h = tt

pub refused : (t : Tree) (r : Result Message Unread) → IsMessageOrNot t (answer r) → IfErr r (λ u. IsSaidFirst message_points t (unread u))
refused t (Ok m) h = tt
refused t (Err u) h = h
