-- Reading the verdict on a tree: the message first, then its portions.
use Rattle.std.specs.Prelude.{ℕ, List, length, Result, Ok, Err, Option, Some, None, nat_le, if◌then◌else◌, option_map, option_and_then}
use Rattle.x690.specs.Tree.{Tree}
use Rattle.machine.specs.Received.{Response, Apdu, Aarq, Aare, Abrt, Message, Begin, Continue, End, Abort, Verdict, Discard, Refuse, Read}
use Rattle.machine.specs.declared.numbers.TheConstants.{MAX_COMPONENTS, RESOURCE_LIMITATION}
use Rattle.frames.specs.declared.numbers.TheConstants.{INCORRECT_TRANSACTION_PORTION}
use Rattle.frames.specs.Messages as tc
use Rattle.frames.specs.Messages.{TcMessage, Unread, Discarded, Refused, message_of, components_in}
use Rattle.frames.specs.Dialogues.{dialogue_of}
use Rattle.frames.specs.Heard.{all_heard}

-- the context that an AARQ requests, and an AARE
abbrev pub request_in : Apdu → Option (List ℕ)
request_in (Aarq context) = Some context
request_in (Aare response) = None
request_in (Abrt source) = None

abbrev pub response_in : Apdu → Option Response
response_in (Aarq context) = None
response_in (Aare response) = Some response
response_in (Abrt source) = None

-- what an optional dialogue portion holds; nothing if it is unreadable
abbrev pub portion_of : {A : Type 0} → (Apdu → Option A) → Option Tree → Option (Option A)
portion_of wanted None = Some None
portion_of wanted (Some t) = option_map Some (option_and_then wanted (dialogue_of t))

-- the message with its portions read; nothing if the dialogue portion is unreadable
abbrev pub read_in : TcMessage → Option Message
read_in (tc.Begin origin p) = option_map (λ context. Begin origin context (all_heard p.components)) (portion_of request_in p.dialogue)
read_in (tc.Continue origin destination p) = option_map (λ response. Continue origin destination response (all_heard p.components))
    (portion_of response_in p.dialogue)
read_in (tc.End destination p) = option_map (λ response. End destination response (all_heard p.components)) (portion_of response_in p.dialogue)
read_in (tc.Abort destination) = Some (Abort destination)

-- a Begin or a Continue is answered with an Abort, an End or an Abort is discarded
abbrev pub refusal : TcMessage → (cause : ℕ) → Verdict
refusal (tc.Begin origin p) cause = Refuse origin cause
refusal (tc.Continue origin destination p) cause = Refuse origin cause
refusal (tc.End destination p) cause = Discard
refusal (tc.Abort destination) cause = Discard

abbrev pub checked : TcMessage → Option Message → Verdict
checked m None = refusal m INCORRECT_TRANSACTION_PORTION
checked m (Some read) = if nat_le (length (components_in m)) MAX_COMPONENTS then Read read else refusal m RESOURCE_LIMITATION

abbrev pub verdict_on : Unread → Verdict
verdict_on Discarded = Discard
verdict_on (Refused origin cause) = Refuse origin cause

abbrev pub verdict_in : Result TcMessage Unread → Verdict
verdict_in (Err unread) = verdict_on unread
verdict_in (Ok m) = checked m (read_in m)

unfoldable pub verdict_of : Tree → Verdict
verdict_of t = verdict_in (message_of t)
