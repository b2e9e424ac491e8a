-- What is sent, as the values of the machine.
use Rattle.std.specs.Prelude.{List, [], ◌∷◌, map, option_map}
use Rattle.machine.specs.Sent as machine
use Rattle.machine.specs.Outcome.{inserts}
use Rattle.mapargs_loc.specs.Seen.{cancellation}
use Rattle.mapctx.specs.Seen.{context}
use Rattle.mapdlg.specs.Seen.{why}
use Rattle.q773_comp.specs.Seen.{rejection}
use Rattle.outgoing.specs.declared.component.SentComponent.{SentComponent}
use Rattle.outgoing.specs.declared.component.SentComponent.TheVariants.{Cancel, UpdateResult, PurgeResult, RouteResult, Error}
use Rattle.outgoing.specs.declared.component.Components.{Components}
use Rattle.outgoing.specs.declared.component.Components.TheVariants.{Nothing, One, Data}
use Rattle.outgoing.specs.declared.message.SentMessage.{SentMessage}
use Rattle.outgoing.specs.declared.message.SentMessage.TheVariants.{Begin, Continue, End, Abort}
use Rattle.outgoing.specs.declared.message.Addressed.{Addressed}

abbrev pub component : SentComponent → machine.SentComponent
component (Cancel id imsi why) = machine.Cancel id imsi (cancellation why)
component (UpdateResult id hlr) = machine.UpdateResult id hlr
component (PurgeResult id freeze) = machine.PurgeResult id freeze
component (RouteResult id imsi msc lmsi) = machine.RouteResult id imsi msc lmsi
component (Error id code) = machine.SentError id code

-- A subscriber's data take as many inserts as they need.
abbrev pub components : Components → List machine.SentComponent
components Nothing = []
components (One c) = component c ∷ []
components (Data d) = inserts d.imsi d.msisdn d.codes

abbrev pub message : SentMessage → machine.SentMessage
message (Begin origin of sent) = machine.SentBegin origin (context of) (components sent)
message (Continue origin destination of rejects sent) =
    machine.SentContinue origin destination (option_map context of) (map rejection rejects.items) (components sent)
message (End destination of rejects sent) = machine.SentEnd destination (option_map context of) (map rejection rejects.items) (components sent)
message (Abort destination said) = machine.SentAbort destination (why said)

abbrev pub out : Addressed → machine.Out
out o = record { to = o.to; message = message o.message }
