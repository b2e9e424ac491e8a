-- How a step moves a transaction and its invocations by rows of the tables (Q.774, transaction and component sublayers).
use Rattle.std.specs.Prelude.{◌≡◌, ℕ, ℤ, List, [], ◌∷◌, ◌++◌, map, false, Option, Some, None}
use Rattle.std.specs.Ordering.{int_eq}
use Rattle.machine.specs.Keys.{Every}
use Rattle.machine.specs.declared.numbers.TheConstants.{UNRECOGNIZED_TRANSACTION_ID}
use Rattle.machine.specs.Received.{Component, Begin, Read}
use Rattle.machine.specs.Sent.{Context, Rejection, SentComponent, Insert, Cancel, Cause, SentMessage, SentBegin, SentContinue, SentEnd, SentAbort, Out}
use Rattle.machine.specs.Events.{Event, Frame}
use Rattle.machine.specs.State.{Transaction, Invocation, Dialogue, State}
use Rattle.machine.specs.Transactions.{OwnBegin, Answered, ContinueComes, CloseComes, OwnContinue, OwnEnd, OwnClose, Disposition, IsSent, ForIt, Unassigned, Nothing, row, transact}
use Rattle.machine.specs.Contexts.{accepted}
use Rattle.machine.specs.Effect.{effect, invocations_after, rejects_after}
use Rattle.machine.specs.Begins.{offer_in}
use Rattle.machine.specs.Dialogues.{offer_to}
use Rattle.machine.specs.Routing.{shard_named}
use Rattle.machine.specs.Step.{Answer}
use Rattle.machine.specs.Invocations.{Invoked, TimesOut, Reply, NoReply, invocation}
use Rattle.machine.specs.Outcome.{send}
use Rattle.machine.specs.Rows.{standing_of}

-- the transaction of a local id, if a dialogue has it
abbrev pub transaction_of : Option Dialogue → Option Transaction
transaction_of None = None
transaction_of (Some d) = Some d.transaction

-- What the register itself does with the transaction i is a row of the transaction table. A frame that it sends goes to the
-- transaction's peer, has its ids, and carries these Rejects; if no frame is sent, there are none. A Begin carries none.
pub data Does (i : List ℕ) (before : Option Transaction) (rejects : List Rejection) (sent : List Out) (after : Option Transaction) : Type 0 where
  DoesNothing : after ≡ before → rejects ≡ [] → sent ≡ [] → Does i before rejects sent after
  DoesBegin : (to : List ℕ) (context : Context) (components : List SentComponent)
      → transact before (OwnBegin to) ≡ row after IsSent → sent ≡ send to (SentBegin i context components)
      → Does i before rejects sent after
  DoesAnswer : (from origin : List ℕ) (context : Context) (components : List SentComponent)
      → transact before (Answered from origin) ≡ row after IsSent
      → sent ≡ send from (SentContinue i origin (Some context) rejects components) → Does i before rejects sent after
  DoesContinue : (t : Transaction) (remote : List ℕ)
      → before ≡ Some t → t.remote ≡ Some remote
      → transact before OwnContinue ≡ row after IsSent
      → sent ≡ send t.peer (SentContinue i remote None rejects []) → Does i before rejects sent after
  DoesEnd : (t : Transaction) (remote : List ℕ) (components : List SentComponent)
      → before ≡ Some t → t.remote ≡ Some remote
      → transact before OwnEnd ≡ row after IsSent → sent ≡ send t.peer (SentEnd remote None rejects components)
      → Does i before rejects sent after
  DoesClose : transact before OwnClose ≡ row after Nothing → rejects ≡ [] → sent ≡ [] → Does i before rejects sent after

-- A step first sends the frames of the dialogue i that its event is for, with the Rejects of what was received; then those of
-- a dialogue that opens. `received` is the transaction of i once the frame has been received.
pub record DoesFirst (i : List ℕ) (received : Option Transaction) (rejects : List Rejection) (sent : List Out) (opened : Option (List ℕ))
    (after : Option Dialogue) : Type 0 where
  pub first : List Out
  pub second : List Out
  pub both : sent ≡ first ++ second
  pub does : Does i received rejects first (transaction_of after)
  pub alone : opened ≡ None → second ≡ []

-- each invocation is that of an operation that was invoked now
abbrev pub AreInvoked : (now : ℕ) → List Invocation → Type 0
AreInvoked now vs = Every (λ (v : Invocation). invocation None Invoked now ≡ Some (Some (v.was, v.deadline), NoReply)) vs

-- the invoke ids of the components that are Invokes
abbrev pub invokes_in : List SentComponent → List ℤ
invokes_in [] = []
invokes_in (Insert id imsi msisdn codes ∷ components) = id ∷ invokes_in components
invokes_in (Cancel id imsi cause ∷ components) = id ∷ invokes_in components
invokes_in (_ ∷ components) = invokes_in components

-- the components of a message
abbrev pub components_in : SentMessage → List SentComponent
components_in (SentBegin origin context components) = components
components_in (SentContinue origin destination context rejects components) = components
components_in (SentEnd destination context rejects components) = components
components_in (SentAbort destination why) = []

-- the invoke ids of these frames
abbrev pub invokes_of : List Out → List ℤ
invokes_of [] = []
invokes_of (out ∷ outs) = invokes_in (components_in out.message) ++ invokes_of outs

-- The frames after those of the named dialogue are those of the dialogue that opens under the id i: what is done with its
-- transaction is a row, and its invocations are invoked now, each by an Invoke with its id.
pub record DoesSecond (now : ℕ) (i : List ℕ) (sent : List Out) (dialogue : Dialogue) : Type 0 where
  pub first : List Out
  pub second : List Out
  pub both : sent ≡ first ++ second
  pub rejects : List Rejection
  pub does : Does i None rejects second (Some dialogue.transaction)
  pub invoked : AreInvoked now dialogue.invocations
  pub ids : invokes_of second ≡ map (λ (v : Invocation). v.id) dialogue.invocations

-- The timer of the invocation j has expired: it moves by its row, and the others stay.
pub record TimedOut (now : ℕ) (j : ℤ) (before after : List Invocation) : Type 0 where
  pub reply : Reply
  pub row : invocation (standing_of j before) TimesOut now ≡ Some (standing_of j after, reply)
  pub others : (k : ℤ) → int_eq j k ≡ false → standing_of k after ≡ standing_of k before

-- What becomes of a Continue for the local id i, by its row of the transaction table. If it is for the dialogue, its
-- components move the invocations.
pub data ContinueMoves (S : State) (from origin i : List ℕ) (components : List Component) (T : State) (a : Answer) : Type 0 where
  ForDialogue : (d : Dialogue) (t : Transaction) → S.dialogues i ≡ Some d
      → transact (Some d.transaction) (ContinueComes from origin) ≡ row (Some t) ForIt
      → DoesFirst i (Some t) (effect (S.clocks (shard_named i)) (offer_to d.kind) d.invocations components).rejects a.sent a.id (T.dialogues i)
      → ((f : Dialogue) → T.dialogues i ≡ Some f → f.invocations ≡ invocations_after (S.clocks (shard_named i)) components d.invocations)
      → ContinueMoves S from origin i components T a
  ForNone : transact (transaction_of (S.dialogues i)) (ContinueComes from origin) ≡ row (transaction_of (T.dialogues i)) Unassigned
      → T ≡ S → a.sent ≡ send from (SentAbort origin (Cause UNRECOGNIZED_TRANSACTION_ID))
      → ContinueMoves S from origin i components T a

-- What becomes of an End or an Abort for the local id i.
pub record CloseMoves (S : State) (i : List ℕ) (T : State) (a : Answer) : Type 0 where
  pub disposition : Disposition
  pub closed : transact (transaction_of (S.dialogues i)) CloseComes ≡ row (transaction_of (T.dialogues i)) disposition
  pub silent : a.sent ≡ []

-- What becomes of the dialogue i when the timer of its invocation j expires.
pub record ExpiryMoves (S : State) (n : ℕ) (i : List ℕ) (d : Dialogue) (j : ℤ) (T : State) (a : Answer) : Type 0 where
  pub does : DoesFirst i (Some d.transaction) [] a.sent a.id (T.dialogues i)
  pub invocations : (f : Dialogue) → T.dialogues i ≡ Some f → TimedOut (S.clocks n) j d.invocations f.invocations

-- What becomes of the dialogue that opens under the id i in shard n. If a Begin opens it, its peer and its remote id are the
-- Begin's source address and originating id.
pub record OpeningMoves (S : State) (e : Event) (n : ℕ) (i : List ℕ) (T : State) (a : Answer) : Type 0 where
  pub dialogue : Dialogue
  pub is_open : T.dialogues i ≡ Some dialogue
  pub does : DoesSecond (S.clocks n) i a.sent dialogue
  pub begun : (from origin : List ℕ) (name : Option (List ℕ)) (components : List Component)
      → e ≡ Frame from (Read (Begin origin name components)) → dialogue.transaction ≡ record { peer = from; remote = Some origin }

-- the Rejects of the components of a Begin, in a context that is accepted
abbrev pub rejects_in : Option Context → List Component → List Rejection
rejects_in None components = []
rejects_in (Some context) components = rejects_after (offer_in context components) [] [] components

-- the same, by the name of the context
abbrev pub rejects_of_begin : Option (List ℕ) → List Component → List Rejection
rejects_of_begin None components = []
rejects_of_begin (Some name) components = rejects_in (accepted name) components

-- A message is for the peer with this id: a Continue or an End with these Rejects, or an Abort, which has none.
abbrev pub IsAnswerTo : (origin : List ℕ) → List Rejection → SentMessage → Type 0
IsAnswerTo origin rejects (SentBegin own context components) = ⊥
IsAnswerTo origin rejects (SentContinue own destination context rejected components) = (destination ≡ origin) × (rejected ≡ rejects)
IsAnswerTo origin rejects (SentEnd destination context rejected components) = (destination ≡ origin) × (rejected ≡ rejects)
IsAnswerTo origin rejects (SentAbort destination why) = destination ≡ origin

-- What becomes of a Begin: it is answered by one frame, to its source address.
pub record BeginMoves (from origin : List ℕ) (name : Option (List ℕ)) (components : List Component) (a : Answer) : Type 0 where
  pub message : SentMessage
  pub sent : a.sent ≡ send from message
  pub answers : IsAnswerTo origin (rejects_of_begin name components) message
