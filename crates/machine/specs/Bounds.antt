-- The limits on values in what is loaded, received and sent (profile; TS 29.002, Q.773). Steps keep within them, so what is
-- sent can be encoded.
use Rattle.std.specs.Prelude.{◌≡◌, ◌≢◌, ℕ, ℤ, ◌<◌, ◌≤◌, List, [], ◌∷◌, length, FitsSigned, Option, Some, None, is_some, IsTrue}
use Rattle.std.specs.Int.{w8}
use Rattle.octets.specs.Octets.{IsOctet, AreOctets, HasIdLength}
use Rattle.machine.specs.Keys.{Every}
use Rattle.machine.specs.declared.numbers.TheConstants.{UPDATE_LOCATION, PURGE_MS, SEND_ROUTING_INFO_FOR_SM, SHARDS, MAX_ATTEMPTS, MAX_COMPONENTS, MAX_CONTEXT_NAME, MAX_CODES_IN_INSERT, MAX_CLOCK}
use Rattle.machine.specs.Received.{Register, Argument, BadValue, Update, Purge, Route, Parameter, Typed, Code, Number, Component, Invoke, ResultLast, ResultNotLast, ReturnError, Bad, Message, Begin, Continue, Verdict, Discard, Refuse, Read}
use Rattle.machine.specs.Sent.{Context, Rejection, SentComponent, Insert, Cancel, UpdateResult, PurgeResult, RouteResult, SentError, Why, NoCause, Cause, Refusing, SentMessage, SentBegin, SentContinue, SentEnd, SentAbort, Out}
use Rattle.machine.specs.Events.{Change, Codes, Withdraw, Event, Frame, Clock, Expire, Operator}
use Rattle.machine.specs.State.{Subscriber, Transaction, Invocation, Kind, Updates, Cancels, Data, Dialogue, State}
use Rattle.machine.specs.Contexts.{operation_of}
use Rattle.machine.specs.Begins.{first_argument}
use Rattle.machine.specs.Step.{Answer}

-- values

-- P holds of the value, if there is one
abbrev pub IfThere : {X : Type 0} → (X → Type 0) → Option X → Type 0
IfThere P None = Unit {0}
IfThere P (Some x) = P x

-- at most sixteen digits 0 to 9
abbrev pub AreDigits : List ℕ → Type 0
AreDigits digits = Every (λ d. d < 10) digits × (length digits ≤ 16)

-- one to four octets
pub record IsTransactionId (id : List ℕ) : Type 0 where
  pub octets : AreOctets id
  pub count : HasIdLength id

-- from -128 to 127
abbrev pub IsInvokeId : ℤ → Type 0
IsInvokeId id = FitsSigned w8 id

-- the name of an application context: at most 32 octets
abbrev pub IsName : List ℕ → Type 0
IsName name = AreOctets name × (length name ≤ MAX_CONTEXT_NAME)

-- no number occurs twice
abbrev pub AreDistinct : List ℕ → Type 0
AreDistinct [] = Unit {0}
AreDistinct (c ∷ cs) = Every (λ d. c ≢ d) cs × AreDistinct cs

-- a subscriber's teleservice codes: at most 32 different octets
pub record AreCodes (codes : List ℕ) : Type 0 where
  pub octets : AreOctets codes
  pub different : AreDistinct codes
  pub most : length codes ≤ 32

-- a register's numbers are digits, and an LMSI has four octets
pub record IsRegister (register : Register) : Type 0 where
  pub vlr : AreDigits register.vlr
  pub msc : AreDigits register.msc
  pub lmsi : IfThere (λ lmsi. AreOctets lmsi × (length lmsi ≡ 4)) register.lmsi

-- states

-- a subscriber's record, with at most eight roaming prefixes
pub record RecordInBounds (s : Subscriber) : Type 0 where
  pub msisdn : AreDigits s.msisdn
  pub codes : AreCodes s.codes
  pub roam : IfThere (λ prefixes. Every AreDigits prefixes × (length prefixes ≤ 8)) s.roam
  pub register : IfThere IsRegister s.register

-- An update is Active from its beginning.
abbrev pub KindInBounds : Kind → Transaction → Type 0
KindInBounds (Updates register invoke) t = IsRegister register × IsInvokeId invoke × IsTrue (is_some t.remote)
KindInBounds (Cancels vlr attempt cause) t = AreDigits vlr × (0 < attempt) × (attempt ≤ MAX_ATTEMPTS)
KindInBounds Data t = Unit {0}

-- an open dialogue's digits and ids
pub record DialogueInBounds (d : Dialogue) : Type 0 where
  pub subscriber : AreDigits d.subscriber
  pub peer : AreDigits d.transaction.peer
  pub remote : IfThere IsTransactionId d.transaction.remote
  pub invocations : Every (λ (v : Invocation). IsInvokeId v.id) d.invocations
  pub kind : KindInBounds d.kind d.transaction

-- Every record, every dialogue and every clock of a state; only the shards have clocks.
pub record StateInBounds (S : State) : Type 0 where
  pub records : (x : List ℕ) (s : Subscriber) → S.records x ≡ Some s → AreDigits x × RecordInBounds s
  pub dialogues : (i : List ℕ) (d : Dialogue) → S.dialogues i ≡ Some d → IsTransactionId i × DialogueInBounds d
  pub clocks : (n : ℕ) → S.clocks n ≤ MAX_CLOCK
  pub no_more : (n : ℕ) → SHARDS ≤ n → S.clocks n ≡ 0
  pub hlr : AreDigits S.hlr

-- events

-- The argument is one of the Invoke's operation.
abbrev pub IsOfOperation : Code → Argument → Type 0
IsOfOperation (Number operation) (Update imsi register) = operation ≡ UPDATE_LOCATION
IsOfOperation (Number operation) (Purge imsi vlr) = operation ≡ PURGE_MS
IsOfOperation (Number operation) (Route msisdn) = operation ≡ SEND_ROUTING_INFO_FOR_SM
IsOfOperation (Number operation) BadValue = Unit {0}
IsOfOperation _ argument = ⊥

-- the digits of an argument
abbrev pub ArgumentInBounds : Argument → Type 0
ArgumentInBounds BadValue = Unit {0}
ArgumentInBounds (Update imsi register) = AreDigits imsi × IsRegister register
ArgumentInBounds (Purge imsi vlr) = AreDigits imsi × IfThere AreDigits vlr
ArgumentInBounds (Route msisdn) = AreDigits msisdn

-- a mistyped parameter is not read
abbrev pub ParameterInBounds : Code → Option Parameter → Type 0
ParameterInBounds operation (Some (Typed argument)) = ArgumentInBounds argument × IsOfOperation operation argument
ParameterInBounds operation _ = Unit {0}

-- the ids of a received component, and the problem of an ill-formed one
abbrev pub ComponentInBounds : Component → Type 0
ComponentInBounds (Invoke id linked operation parameter) = IsInvokeId id × ParameterInBounds operation parameter
ComponentInBounds (ResultLast id) = IsInvokeId id
ComponentInBounds (ResultNotLast id) = IsInvokeId id
ComponentInBounds (ReturnError id error) = IsInvokeId id
ComponentInBounds (Bad id problem) = IfThere IsInvokeId id × IsOctet problem
ComponentInBounds _ = Unit {0}

-- at most sixteen components
abbrev pub ComponentsInBounds : List Component → Type 0
ComponentsInBounds components = Every ComponentInBounds components × (length components ≤ MAX_COMPONENTS)

-- a received message; nothing more is read of one that closes a dialogue
abbrev pub MessageInBounds : Message → Type 0
MessageInBounds (Begin origin name components) =
    IsTransactionId origin × IfThere IsName name × ComponentsInBounds components
MessageInBounds (Continue origin destination portion components) = IsTransactionId origin × ComponentsInBounds components
MessageInBounds _ = Unit {0}

-- what a frame reads to
abbrev pub VerdictInBounds : Verdict → Type 0
VerdictInBounds Discard = Unit {0}
VerdictInBounds (Refuse origin cause) = IsTransactionId origin × IsOctet cause
VerdictInBounds (Read message) = MessageInBounds message

-- an operator's change
abbrev pub ChangeInBounds : Change → Type 0
ChangeInBounds (Codes codes) = AreCodes codes
ChangeInBounds Withdraw = Unit {0}

-- an event
abbrev pub EventInBounds : Event → Type 0
EventInBounds (Frame from verdict) = AreDigits from × VerdictInBounds verdict
EventInBounds (Clock shard now) = shard < SHARDS
EventInBounds (Expire shard) = shard < SHARDS
EventInBounds (Operator imsi change) = ChangeInBounds change

-- answers

-- what a component that is sent has
abbrev pub SentComponentInBounds : SentComponent → Type 0
SentComponentInBounds (Insert id imsi msisdn codes) =
    IsInvokeId id × IfThere AreDigits imsi × IfThere AreDigits msisdn × AreOctets codes × (length codes ≤ MAX_CODES_IN_INSERT)
SentComponentInBounds (Cancel id imsi cause) = IsInvokeId id × AreDigits imsi
SentComponentInBounds (UpdateResult id hlr) = IsInvokeId id × AreDigits hlr
SentComponentInBounds (PurgeResult id freeze) = IsInvokeId id
SentComponentInBounds (RouteResult id imsi msc lmsi) =
    IsInvokeId id × AreDigits imsi × AreDigits msc × IfThere (λ lmsi. AreOctets lmsi × (length lmsi ≡ 4)) lmsi
SentComponentInBounds (SentError id code) = IsInvokeId id × IsOctet code

-- at most four of a procedure's own components, and at most sixteen Rejects
abbrev pub OwnInBounds : List SentComponent → Type 0
OwnInBounds components = Every SentComponentInBounds components × (length components ≤ 4)

-- a Reject's id, if any, and its problem
abbrev pub RejectInBounds : Rejection → Type 0
RejectInBounds r = IfThere IsInvokeId r.id × IsOctet r.problem

-- at most sixteen Rejects
abbrev pub RejectsInBounds : List Rejection → Type 0
RejectsInBounds rejects = Every RejectInBounds rejects × (length rejects ≤ MAX_COMPONENTS)

-- the cause of an Abort, or the name that it refuses
abbrev pub WhyInBounds : Why → Type 0
WhyInBounds NoCause = Unit {0}
WhyInBounds (Cause cause) = IsOctet cause
WhyInBounds (Refusing name) = IsName name

-- what a message that is sent has
abbrev pub SentInBounds : SentMessage → Type 0
SentInBounds (SentBegin origin context components) = IsTransactionId origin × OwnInBounds components
SentInBounds (SentContinue origin destination context rejects components) =
    IsTransactionId origin × IsTransactionId destination × RejectsInBounds rejects × OwnInBounds components
SentInBounds (SentEnd destination context rejects components) =
    IsTransactionId destination × RejectsInBounds rejects × OwnInBounds components
SentInBounds (SentAbort destination why) = IsTransactionId destination × WhyInBounds why

-- and the address it goes to
abbrev pub OutInBounds : Out → Type 0
OutInBounds out = AreDigits out.to × SentInBounds out.message

-- each frame of an answer
abbrev pub AnswerInBounds : Answer → Type 0
AnswerInBounds a = Every OutInBounds a.sent

-- The first component has an argument, and it is one of the operation that a peer may invoke in the context.
pub record StartsOfOperation (context : Context) (components : List Component) : Type 0 where
  pub operation : ℕ
  pub argument : Argument
  pub of_context : operation_of context ≡ Some operation
  pub is_first : first_argument components ≡ Some argument
  pub of_operation : IsOfOperation (Number operation) argument
