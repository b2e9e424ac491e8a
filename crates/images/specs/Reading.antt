-- The image of a register, read line by line (profile): what each line makes of what was read before it.
use Rattle.std.specs.Prelude.{◌≡◌, ◌<◌, ◌⊎◌, ℕ, ◌-◌, List, [], ◌∷◌, ◌++◌, true, Some}
use Rattle.std.specs.FinSet as set
use Rattle.machine.specs.Effect.{AreRising}
use Rattle.machine.specs.State.{Invocation}
use Rattle.tidalloc.specs.LiveIds.{LiveIds, beginning_after, given_back, is_live, no_ids}
use Rattle.tidalloc.specs.Resumed.{IsNextUnused, set_back, with_used}
use Rattle.dialogues.specs.Dialogues.{gone_on, next_of}
use Rattle.hlrcore.specs.Resuming.{may_reopen, reopened, resumed}
use Rattle.hlrcore.specs.Shards.{ShardState}
use Rattle.image_lines.specs.Lines.{Line, Shard, Used, Freed, Opened, Waits, End}

-- ---- one shard

-- How far the lines of a shard have come: none was read; its clock and its ids, to which slots may be added, and then free ones; its dialogues, of which so
-- many are left, with the invocations of the next one; or all of them, so that the shard is whole.
pub data Stage : Type 0 where
  Begins : Stage
  HasIds : (clock : ℕ) → LiveIds → Stage
  HasOpened : (left : ℕ) → List Invocation → Stage
  Whole : Stage

-- The shard as far as it was read.
pub record Reading : Type 0 where
  pub state : ShardState
  pub stage : Stage

abbrev pub reading : ShardState → Stage → Reading
reading s stage = record { state = s; stage = stage }

-- A line of a dialogue or of an invocation of the next one, or the last line of a shard. A dialogue opens again under its own id, which is the next. After
-- the last line as many dialogues are open as ids are live, and no invocation waits for its dialogue.
abbrev pub OpensAt : ShardState → (left : ℕ) → List Invocation → Line → Reading → Type 0
OpensAt s left vs (Waits v) r = AreRising (vs ++ v ∷ []) × (r ≡ reading s (HasOpened left (vs ++ v ∷ [])))
OpensAt s left vs (Opened id is_current d) r =
    (0 < left) × (next_of s.dialogues ≡ Some id) × (may_reopen s is_current (gone_on vs d) ≡ true)
    × (r ≡ reading (reopened s is_current (gone_on vs d)) (HasOpened (left - 1) []))
OpensAt s left vs End r = (left ≡ 0) × (vs ≡ []) × (r ≡ reading s Whole)
OpensAt s left vs _ r = ⊥

-- The shard with all ids, of which the live ones are taken again by the dialogues.
abbrev pub with_ids : ShardState → (clock : ℕ) → LiveIds → ShardState
with_ids s clock ids = resumed s clock (set_back ids)

-- A line makes this of what was read.
abbrev pub TakesAt : ShardState → Stage → Line → Reading → Type 0
TakesAt s Begins (Shard n clock first) r = (n ≡ s.shard) × (r ≡ reading s (HasIds clock (beginning_after (no_ids n) first)))
TakesAt s Begins _ r = ⊥
TakesAt s (HasIds clock ids) (Shard n later first) r = ⊥
TakesAt s (HasIds clock ids) (Used id) r = (ids.supply.free ≡ []) × IsNextUnused ids id × (r ≡ reading s (HasIds clock (with_used ids id)))
TakesAt s (HasIds clock ids) (Freed id) r = (is_live ids id ≡ true) × (r ≡ reading s (HasIds clock (given_back ids id)))
TakesAt s (HasIds clock ids) line r = OpensAt (with_ids s clock ids) (set.len ids.live) [] line r
TakesAt s (HasOpened left vs) line r = OpensAt s left vs line r
TakesAt s Whole line r = ⊥

abbrev pub Takes : Reading → Line → Reading → Type 0
Takes before line after = TakesAt before.state before.stage line after

-- The shard is whole: its last line was read.
abbrev pub EndsAt : ShardState → Stage → ShardState → Type 0
EndsAt s Whole t = t ≡ s
EndsAt s _ t = ⊥

abbrev pub Ends : Reading → ShardState → Type 0
Ends before t = EndsAt before.state before.stage t

-- ---- all shards

-- The shards that are whole, the one that is read, and those that begin later, as they are with no line read.
pub record Image : Type 0 where
  pub done : List ShardState
  pub now : Reading
  pub later : List ShardState

-- The line goes on with the shard that is read, or that one is whole and the line begins the next.
abbrev pub GoesOn : Image → Line → Image → Type 0
GoesOn before line after = (r : Reading) × Takes before.now line r × (after ≡ record before { now = r })

abbrev pub BeginsNext : Image → Line → Image → Type 0
BeginsNext before line after = (t s : ShardState) × (more : List ShardState) × (r : Reading) × Ends before.now t × (before.later ≡ s ∷ more)
    × Takes (reading s Begins) line r × (after ≡ record { done = before.done ++ t ∷ []; now = r; later = more })

abbrev pub TakesLine : Image → Line → Image → Type 0
TakesLine before line after = GoesOn before line after ⊎ BeginsNext before line after

-- The lines do, one after the other.
abbrev pub TakesLines : Image → List Line → Image → Type 0
TakesLines before [] after = before ≡ after
TakesLines before (line ∷ more) after = (between : Image) × TakesLine before line between × TakesLines between more after

-- All shards are whole, and these are they.
abbrev pub IsWhole : Image → List ShardState → Type 0
IsWhole before shards = (t : ShardState) × Ends before.now t × (before.later ≡ []) × (shards ≡ before.done ++ t ∷ [])
