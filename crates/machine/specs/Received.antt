-- What a received frame reads to, as plain values: messages and components of Q.773, parameters of TS 29.002. The whole
-- project uses these types: the decoders produce them, and the machine acts on them.
use Rattle.std.specs.Prelude.{ℕ, ℤ, List, Option}

-- The register that serves a subscriber (TS 23.012): the digits of its VLR number and of its MSC number (E.164), and the LMSI
-- under which it knows the subscriber.
pub record Register : Type 0 where
  pub vlr : List ℕ
  pub msc : List ℕ
  pub lmsi : Option (List ℕ)

-- The argument of an operation that a peer may invoke (TS 29.002). `BadValue` is of the operation's type, but an identity
-- or number in it is invalid.
pub data Argument : Type 0 where
  BadValue : Argument
  Update : (imsi : List ℕ) → Register → Argument  -- updateLocation (UpdateLocationArg)
  Purge : (imsi : List ℕ) → (vlr : Option (List ℕ)) → Argument  -- purgeMS (PurgeMS-Arg)
  Route : (msisdn : List ℕ) → Argument  -- sendRoutingInfoForSM (RoutingInfoForSM-Arg)

-- The parameter of a received Invoke, read by its operation: not of that operation's type, or an argument.
pub data Parameter : Type 0 where
  Mistyped : Parameter
  Typed : Argument → Parameter

-- The code of an operation or an error (Q.773). No operation known here has a code of more than one octet or an OBJECT
-- IDENTIFIER.
pub data Code : Type 0 where
  Number : ℕ → Code
  Other : Code

-- Which kind of component a Reject's problem is of (Q.773, problem code).
pub data Side : Type 0 where
  General : Side
  OfInvoke : Side
  OfResult : Side
  OfError : Side

-- A received component (Q.773). P is the type of an Invoke's parameter. The code and the parameter of a result, and the
-- parameter of an error, are accepted unread (profile).
pub data ComponentOf (P : Type 0) : Type 0 where
  Invoke : (id : ℤ) → (linked : Option ℤ) → (operation : Code) → (parameter : Option P) → ComponentOf P
  ResultLast : (id : ℤ) → ComponentOf P
  ResultNotLast : (id : ℤ) → ComponentOf P
  ReturnError : (id : ℤ) → (error : Code) → ComponentOf P
  Reject : (id : Option ℤ) → Side → (problem : ℕ) → ComponentOf P
  Bad : (id : Option ℤ) → (problem : ℕ) → ComponentOf P  -- ill-formed, with the general problem that is answered
  Ignored : ComponentOf P  -- an ill-formed Reject, which keeps its place

abbrev pub Component : Type 0
Component = ComponentOf Parameter

-- Who found a fault in a dialogue request (Q.773, result source diagnostic).
pub data Diagnostic : Type 0 where
  OfUser : ℕ → Diagnostic
  OfProvider : ℕ → Diagnostic

-- An AARE (Q.773): the application context's name, the result, and why.
pub record Response : Type 0 where
  pub context : List ℕ
  pub result : ℕ
  pub diagnostic : Diagnostic

-- A dialogue APDU (Q.773): an AARQ with the name of its application context, an AARE, or an ABRT.
pub data Apdu : Type 0 where
  Aarq : (context : List ℕ) → Apdu
  Aare : Response → Apdu
  Abrt : (source : ℕ) → Apdu

-- A received message (Q.773). The ids are the originating and the destination transaction id. A Begin's dialogue
-- portion holds an AARQ, that of a Continue or an End an AARE; another one makes the frame unreadable.
pub data Message : Type 0 where
  Begin : (origin : List ℕ) → (context : Option (List ℕ)) → List Component → Message
  Continue : (origin destination : List ℕ) → Option Response → List Component → Message
  End : (destination : List ℕ) → Option Response → List Component → Message
  Abort : (destination : List ℕ) → Message

-- The verdict on a frame: it is discarded, answered with an Abort with this P-Abort cause, or a message.
pub data Verdict : Type 0 where
  Discard : Verdict
  Refuse : (origin : List ℕ) → (cause : ℕ) → Verdict
  Read : Message → Verdict
