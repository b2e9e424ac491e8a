-- Which registers hold a subscriber's data, determined from the frames alone: no record is read after the base.
use Rattle.std.specs.Prelude.{◌≡◌, ℕ, ℤ, List, [], ◌∷◌, Bool, true, false, cond, ◌&&◌, Option, Some, None}
use Rattle.std.specs.List.{list_any}
use Rattle.machine.specs.Keys.{same, put}
use Rattle.machine.specs.Received.{Register, Argument, Update, Begin, Continue, End, Abort, Read}
use Rattle.machine.specs.Sent.{SentComponent, UpdateResult, Cancel, SentMessage, SentBegin, SentEnd, Out}
use Rattle.machine.specs.Events.{Event, Frame, Clock, Expire, Operator}
use Rattle.machine.specs.State.{Subscriber, Invocation, Kind, Updates, Dialogue, State}
use Rattle.machine.specs.Begins.{first_argument}
use Rattle.machine.specs.Turns.{IsDue, IsLeast}
use Rattle.machine.specs.Legal.{Entry}

-- the VLR digits with which a dialogue begins

-- those of an update's argument
abbrev pub vlr_of_argument : Option Argument → Option (List ℕ)
vlr_of_argument (Some (Update imsi register)) = Some register.vlr
vlr_of_argument _ = None

-- the VLR digits in the argument of an event's frame
abbrev pub vlr_of : Event → Option (List ℕ)
vlr_of (Frame from (Read (Begin origin name components))) = vlr_of_argument (first_argument components)
vlr_of _ = None

-- those that a dialogue stores
abbrev pub vlr_of_kind : Kind → Option (List ℕ)
vlr_of_kind (Updates register invoke) = Some register.vlr
vlr_of_kind _ = None

-- those of an open dialogue
abbrev pub vlr_of_dialogue : Option Dialogue → Option (List ℕ)
vlr_of_dialogue None = None
vlr_of_dialogue (Some d) = vlr_of_kind d.kind

-- The VLR digits with which each local id began: those of the base's dialogues, until an entry takes the id.
abbrev pub began_in : State → List ℕ → Option (List ℕ)
began_in base id = vlr_of_dialogue (base.dialogues id)

-- an id that an event's step takes is recorded with the event's digits
abbrev pub began_by : (List ℕ → Option (List ℕ)) → Event → (id : Option (List ℕ)) → List ℕ → Option (List ℕ)
began_by began e None = began
began_by began e (Some id) = put began id (vlr_of e)

-- after one more entry
abbrev pub began_after : (List ℕ → Option (List ℕ)) → Entry → List ℕ → Option (List ℕ)
began_after began entry = began_by began entry.event entry.answer.id

-- after these entries
abbrev pub began_from : (List ℕ → Option (List ℕ)) → List Entry → List ℕ → Option (List ℕ)
began_from began [] = began
began_from began (entry ∷ entries) = began_from (began_after began entry) entries

-- the dialogue that an event names

-- A frame names a dialogue by its destination id.
abbrev pub names : Event → Option (List ℕ)
names (Frame from (Read (Continue origin destination portion components))) = Some destination
names (Frame from (Read (End destination portion components))) = Some destination
names (Frame from (Read (Abort destination))) = Some destination
names _ = None

-- An expiry names the dialogue of its timer. A clock value and a change name none.
abbrev pub IsNamed : State → Event → List ℕ → Type 0
IsNamed S (Frame from verdict) i = names (Frame from verdict) ≡ Some i
IsNamed S (Clock shard now) i = ⊥
IsNamed S (Expire shard) i =
    (d : Dialogue) × (j : ℤ) × (v : Invocation) × IsDue S shard i d j v × IsLeast S shard v.deadline i j
IsNamed S (Operator imsi change) i = ⊥

-- those of the dialogue that is named
abbrev pub began_named : (List ℕ → Option (List ℕ)) → Option (List ℕ) → Option (List ℕ)
began_named began None = None
began_named began (Some id) = began id

-- who holds

-- a set of VLR digits, as its test
abbrev pub Holding : Type 0
Holding = List ℕ → Bool

-- nobody holds
abbrev pub held_by_none : Holding
held_by_none vlr = false

-- one more holds
abbrev pub added : Option (List ℕ) → Holding → Holding
added None holding vlr = holding vlr
added (Some one) holding vlr = cond (same one vlr) true (holding vlr)

-- one holds no longer
abbrev pub removed : List ℕ → Holding → Holding
removed one holding vlr = cond (same one vlr) false (holding vlr)

-- whether it is the result of updateLocation
abbrev pub is_update_result : SentComponent → Bool
is_update_result (UpdateResult id hlr) = true
is_update_result _ = false

-- whether it is a cancelLocation of x
abbrev pub is_cancel_of : List ℕ → SentComponent → Bool
is_cancel_of x (Cancel id imsi cause) = same imsi x
is_cancel_of x _ = false

-- whether the subject is x
abbrev pub is_subject : List ℕ → (subject : Option (List ℕ)) → Bool
is_subject x None = false
is_subject x (Some imsi) = same imsi x

-- After one frame that an entry sends: an End with the result of updateLocation, in an entry whose subject is x, adds the
-- digits with which its dialogue began; a cancelLocation of x removes the digits it is sent to.
abbrev pub held_after_message : List ℕ → (is_x : Bool) → (began : Option (List ℕ)) → (to : List ℕ) → SentMessage
    → Holding → Holding
held_after_message x is_x began to (SentEnd destination context rejects components) holding =
    cond (list_any is_update_result components && is_x) (added began holding) holding
held_after_message x is_x began to (SentBegin origin context components) holding =
    cond (list_any (is_cancel_of x) components) (removed to holding) holding
held_after_message x is_x began to _ holding = holding

-- after the frames of an entry, in their order
abbrev pub held_after : List ℕ → (is_x : Bool) → (began : Option (List ℕ)) → List Out → Holding → Holding
held_after x is_x began [] holding = holding
held_after x is_x began (out ∷ outs) holding =
    held_after x is_x began outs (held_after_message x is_x began out.to out.message holding)

-- the registers that hold x after the entries, given the digits with which each id began
abbrev pub holders_from : List ℕ → (List ℕ → Option (List ℕ)) → Holding → List Entry → Holding
holders_from x began holding [] = holding
holders_from x began holding (entry ∷ entries) =
    holders_from x (began_after began entry)
    (held_after x (is_subject x entry.answer.subject) (began_named began (names entry.event)) entry.answer.sent holding) entries

-- exactly the serving register, or none
abbrev pub served_by : Option Register → Holding
served_by None = held_by_none
served_by (Some register) = same register.vlr

-- the same of a record
abbrev pub serving : Option Subscriber → Holding
serving None = held_by_none
serving (Some s) = served_by s.register

-- The registers that hold x after a journal, beginning with the one that serves in the base.
unfoldable pub holders : State → List Entry → List ℕ → Holding
holders base journal x = holders_from x (began_in base) (serving (base.records x)) journal
