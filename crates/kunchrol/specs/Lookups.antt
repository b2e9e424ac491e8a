-- What a call looks up, and why it does not.
use Rattle.std.specs.Prelude.{◌≡◌, ◌<◌, ◌≤◌, ◌⊎◌, ℕ, List, Option, Some, None, length}
use Rattle.machine.specs.Deadlines.{IsFirst}
use Rattle.hlr_types.specs.DigitTexts.{IsText, text_of}
use Rattle.records.specs.declared.version.Version.TheVariants.{Two}
use Rattle.records.specs.Spelling.{IsImsiNumber}
use Rattle.records.specs.Subscriber.{Subscriber}
use Rattle.records.specs.Written.{record_line}
use Rattle.wholenode.specs.Nodes.{NodeState}
use Rattle.embed.specs.Counts.{IsCountOf}
use Rattle.embed.specs.Journals.{ListsOpen}
use Rattle.embed.specs.Lookups.{IsTimerOf, record_by_number, record_of}
use Rattle.embed.specs.Registers.{RegisterState}
use Rattle.embed.specs.Buffers.{Writes}
use Rattle.kunchrol.specs.Handles.{Held}
use Rattle.kunchrol.specs.Refusals.{IsClosed, RefusesRoom}

-- ---- the first deadline

-- It is the first of all timers of the register.
pub record TellsDeadline (held : Held) (deadline : ℕ) : Type 0 where
  pub is : RegisterState
  pub held_is : held ≡ Some is
  pub first : IsFirst (IsTimerOf is.node) (Some deadline)

-- No timer runs (1), or the handle is closed.
abbrev pub RefusesDeadline : Held → (code : ℕ) → Type 0
RefusesDeadline held code =
    IsClosed held code ⊎ ((is : RegisterState) × (held ≡ Some is) × (code ≡ 1) × IsFirst (IsTimerOf is.node) None)

-- ---- how full a shard is

pub record TellsCounts (shard : ℕ) (held : Held) (dialogues entries : ℕ) : Type 0 where
  pub is : RegisterState
  pub held_is : held ≡ Some is
  pub counts : IsCountOf is.node shard dialogues entries

-- There is no such shard (3), or the handle is closed.
abbrev pub RefusesCounts : (shard : ℕ) → Held → (code : ℕ) → Type 0
RefusesCounts shard held code = (code ≡ 3) × (16 ≤ shard) ⊎ (shard < 16) × IsClosed held code

-- ---- the subject of the last event

-- The last event was about the subscriber with this IMSI, whose text is written at the front of the buffer.
pub record TellsSubject (held : Held) (room_before : List ℕ) (count : ℕ) (room_after : List ℕ) : Type 0 where
  pub is : RegisterState
  pub held_is : held ≡ Some is
  pub imsi : List ℕ
  pub subject : is.subject ≡ Some imsi
  pub writes : Writes (text_of imsi) room_before count room_after

-- It was about nobody (1), or the text is longer than the buffer, and its length is put (2).
abbrev pub RefusesImsi : (subject : Option (List ℕ)) → (buffer len code : ℕ) → Type 0
RefusesImsi None buffer len code = code ≡ 1
RefusesImsi (Some imsi) buffer len code = (code ≡ 2) × (buffer < len) × (len ≡ length (text_of imsi))

-- The handle is closed, or it was about nobody, or the text is not written.
abbrev pub RefusesSubject : Held → (buffer len code : ℕ) → Type 0
RefusesSubject held buffer len code =
    IsClosed held code ⊎ ((is : RegisterState) × (held ≡ Some is) × RefusesImsi is.subject buffer len code)

-- ---- records

-- What is found under the text of an IMSI.
abbrev pub IsImsiRecord : (imsi : List ℕ) → NodeState → Option Subscriber → Type 0
IsImsiRecord imsi node found = (digits : List ℕ) × IsImsiNumber imsi digits × (found ≡ record_of node digits)

-- What is found under the text of an MSISDN.
abbrev pub IsNumberRecord : (msisdn : List ℕ) → NodeState → Option Subscriber → Type 0
IsNumberRecord msisdn node found = (digits : List ℕ) × IsText msisdn digits × (found ≡ record_by_number node digits)

-- A record that is found is written at the front of the buffer, as a line of a records file.
pub record WritesRecord (IsFound : NodeState → Option Subscriber → Type 0) (held : Held) (room_before : List ℕ) (count : ℕ)
    (room_after : List ℕ) : Type 0 where
  pub is : RegisterState
  pub held_is : held ≡ Some is
  pub subscriber : Subscriber
  pub found : IsFound is.node (Some subscriber)
  pub writes : Writes (record_line Two subscriber) room_before count room_after

-- There is none (1), or its line is not written.
abbrev pub RefusesFound : Option Subscriber → (buffer len code : ℕ) → Type 0
RefusesFound None buffer len code = code ≡ 1
RefusesFound (Some s) buffer len code = RefusesRoom (λ text. text ≡ record_line Two s) buffer len code

-- The text is not of its form (3), or the handle is closed, or there is no record, or its line is not written.
abbrev pub RefusesRecord : (IsFound : NodeState → Option Subscriber → Type 0) → Held → (buffer len code : ℕ) → Type 0
RefusesRecord IsFound held buffer len code =
    (code ≡ 3) × ((node : NodeState) (found : Option Subscriber) → IsFound node found → ⊥)
    ⊎ IsClosed held code
    ⊎ ((is : RegisterState) × (held ≡ Some is) × (found : Option Subscriber) × IsFound is.node found × RefusesFound found buffer len code)

-- ---- open dialogues

-- The listing of a shard's open dialogues is written at the front of the buffer.
pub record ListsDialogues (shard : ℕ) (held : Held) (room_before : List ℕ) (count : ℕ) (room_after : List ℕ) : Type 0 where
  pub is : RegisterState
  pub held_is : held ≡ Some is
  pub text : List ℕ
  pub lists : ListsOpen is.node shard text
  pub writes : Writes text room_before count room_after

-- There is no such shard (3), or the handle is closed, or the listing is not written.
abbrev pub RefusesDialogues : (shard : ℕ) → Held → (buffer len code : ℕ) → Type 0
RefusesDialogues shard held buffer len code =
    (code ≡ 3) × (16 ≤ shard)
    ⊎ (shard < 16) × (IsClosed held code ⊎ ((is : RegisterState) × (held ≡ Some is) × RefusesRoom (ListsOpen is.node shard) buffer len code))
