-- What is read, as the values of the definitions.
use Rattle.std.specs.Prelude.{Result, Ok, Err, option_map}
use Rattle.bertree.specs.Nodes.{tree, elements}
use Rattle.frames.specs.Messages as frames
use Rattle.frames.specs.Messages.{TcMessage}
use Rattle.q773_msg.specs.declared.message.Message.{Message}
use Rattle.q773_msg.specs.declared.message.Message.TheVariants.{Begin, Continue, End, Abort}
use Rattle.q773_msg.specs.declared.message.Portions.{Portions}
use Rattle.q773_msg.specs.declared.message.Unread.{Unread}
use Rattle.q773_msg.specs.declared.message.Unread.TheVariants as refusal

abbrev pub portions : Portions → frames.Portions
portions p = record { dialogue = option_map tree p.dialogue; components = elements p.components }

abbrev pub message : Message → TcMessage
message (Begin origin p) = frames.Begin origin (portions p)
message (Continue origin destination p) = frames.Continue origin destination (portions p)
message (End destination p) = frames.End destination (portions p)
message (Abort destination) = frames.Abort destination

abbrev pub unread : Unread → frames.Unread
unread refusal.Discard = frames.Discarded
unread (refusal.Abort origin cause) = frames.Refused origin cause

abbrev pub answer : Result Message Unread → Result TcMessage frames.Unread
answer (Ok m) = Ok (message m)
answer (Err u) = Err (unread u)
