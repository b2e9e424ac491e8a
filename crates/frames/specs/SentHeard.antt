-- What is sent, as its receiver hears it: a message with the same ids, APDU and components.
use Rattle.std.specs.Prelude.{List, [], ◌++◌, map, Some, None, option_map}
use Rattle.x690.specs.Tree.{Tree}
use Rattle.machine.specs.Received.{Number, OfUser, ComponentOf, Component, Invoke, ResultLast, ReturnError, Reject, Response, Message, Begin, Continue, End, Abort}
use Rattle.machine.specs.Sent.{Context, Rejection, SentComponent, Insert, Cancel, UpdateResult, PurgeResult, RouteResult, SentError, SentMessage, SentBegin, SentContinue, SentEnd, SentAbort}
use Rattle.machine.specs.Contexts.{name_of}
use Rattle.frames.specs.declared.numbers.TheConstants.{INSERT_SUBSCRIBER_DATA, CANCEL_LOCATION, ACCEPTED, NO_DIAGNOSTIC}
use Rattle.frames.specs.SentTrees.{insert_tree, cancel_tree}
use Rattle.frames.specs.Heard.{heard}

abbrev pub reject_meant : Rejection → ComponentOf Tree
reject_meant r = Reject r.id r.side r.problem

abbrev pub component_meant : SentComponent → ComponentOf Tree
component_meant (Insert id imsi msisdn codes) = Invoke id None (Number INSERT_SUBSCRIBER_DATA) (Some (insert_tree imsi msisdn codes))
component_meant (Cancel id imsi cancellation) = Invoke id None (Number CANCEL_LOCATION) (Some (cancel_tree imsi cancellation))
component_meant (UpdateResult id hlr) = ResultLast id
component_meant (PurgeResult id freeze) = ResultLast id
component_meant (RouteResult id imsi msc lmsi) = ResultLast id
component_meant (SentError id code) = ReturnError id (Number code)

-- a peer may not invoke the operations that are sent, so their parameters are mistyped here
abbrev pub components_heard : List Rejection → List SentComponent → List Component
components_heard rejects components = map (λ r. heard (reject_meant r)) rejects ++ map (λ c. heard (component_meant c)) components

abbrev pub accepted_heard : Context → Response
accepted_heard context = record { context = name_of context; result = ACCEPTED; diagnostic = OfUser NO_DIAGNOSTIC }

abbrev pub message_heard : SentMessage → Message
message_heard (SentBegin origin context components) = Begin origin (Some (name_of context)) (components_heard [] components)
message_heard (SentContinue origin destination context rejects components) =
    Continue origin destination (option_map accepted_heard context) (components_heard rejects components)
message_heard (SentEnd destination context rejects components) = End destination (option_map accepted_heard context) (components_heard rejects components)
message_heard (SentAbort destination why) = Abort destination
