-- What the register sends, as plain values.
use Rattle.std.specs.Prelude.{ℕ, ℤ, List, Bool, Option}
use Rattle.machine.specs.Received.{Side}

-- The application contexts of version 3 that the register uses (TS 29.002, MAP-ApplicationContexts).
pub data Context : Type 0 where
  NetworkLocUp : Context
  LocationCancellation : Context
  SubscriberDataMngt : Context
  ShortMsgGateway : Context
  MsPurging : Context

-- A Reject that is sent (Q.773). Without an id it rejects a component that had none.
pub record Rejection : Type 0 where
  pub id : Option ℤ
  pub side : Side
  pub problem : ℕ

-- Why a location is cancelled (TS 29.002, CancellationType).
pub data CancellationType : Type 0 where
  UpdateProcedure : CancellationType
  SubscriptionWithdraw : CancellationType

-- A component that a procedure sends (TS 29.002). An insert with an MSISDN has the status serviceGranted too; without
-- teleservice codes it has no list of them. The error roamingNotAllowed carries its cause, the others no parameter.
pub data SentComponent : Type 0 where
  Insert : (id : ℤ) → (imsi msisdn : Option (List ℕ)) → (codes : List ℕ) → SentComponent
  Cancel : (id : ℤ) → (imsi : List ℕ) → CancellationType → SentComponent
  UpdateResult : (id : ℤ) → (hlr : List ℕ) → SentComponent
  PurgeResult : (id : ℤ) → (freeze : Bool) → SentComponent
  RouteResult : (id : ℤ) → (imsi msc : List ℕ) → (lmsi : Option (List ℕ)) → SentComponent
  SentError : (id : ℤ) → (code : ℕ) → SentComponent

-- What an Abort carries: nothing, a P-Abort cause, or an AARE that refuses the context of this name.
pub data Why : Type 0 where
  NoCause : Why
  Cause : ℕ → Why
  Refusing : (context : List ℕ) → Why

-- A message that is sent (Q.773). The Rejects come first, then the procedure's own components. A context in a Begin is
-- that of its AARQ, in a Continue or an End that of the accepting AARE.
pub data SentMessage : Type 0 where
  SentBegin : (origin : List ℕ) → Context → List SentComponent → SentMessage
  SentContinue : (origin destination : List ℕ) → Option Context → List Rejection → List SentComponent → SentMessage
  SentEnd : (destination : List ℕ) → Option Context → List Rejection → List SentComponent → SentMessage
  SentAbort : (destination : List ℕ) → Why → SentMessage

-- A message with its destination address, as digits.
pub record Out : Type 0 where
  pub to : List ℕ
  pub message : SentMessage
