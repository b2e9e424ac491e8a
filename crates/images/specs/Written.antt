-- The image of a register, as it is written (profile).
use Rattle.std.specs.Prelude.{ℕ, List, [], ◌∷◌, ◌++◌, map as each, Bool, false, Option, Some, None}
use Rattle.std.specs.FinMap as map
use Rattle.std.specs.List.{flat_map}
use Rattle.machine.specs.Keys.{same}
use Rattle.machine.specs.State.{Dialogue}
use Rattle.records.specs.Maps.{RecordMap}
use Rattle.records.specs.Subscriber.{Subscriber}
use Rattle.tidalloc.specs.Resumed.{freed_ids, used_ids}
use Rattle.dialogues.specs.Dialogues.{gone_on}
use Rattle.hlrcore.specs.Shards.{ShardState}
use Rattle.image_lines.specs.Lines.{Line, Shard, Used, Freed, Opened, Waits, End, line_text}

-- Whether the record, if there is one, has this id as that of its current update.
abbrev pub names : List ℕ → Option (List ℕ) → Bool
names id None = false
names id (Some current) = same current id

abbrev pub is_current : List ℕ → Option Subscriber → Bool
is_current id None = false
is_current id (Some r) = names id r.current

-- The lines of an open dialogue: its invocations, and then it.
abbrev pub opened_lines : RecordMap → List ℕ × Dialogue → List Line
opened_lines records (id, d) =
    each (λ v. Waits v) d.invocations ++ Opened id (is_current id (map.get records d.subscriber)) (gone_on [] d) ∷ []

-- The lines of a shard: its clock and where its ids begin, the slots that were used, those that are free, the open dialogues by local id, and that it is
-- whole.
abbrev pub shard_lines : ShardState → List Line
shard_lines s =
    Shard s.shard s.clock s.dialogues.supply.first
    ∷ (each (λ id. Used id) (used_ids s.shard 0 s.dialogues.supply.generations)
    ++ (each (λ id. Freed id) (freed_ids s.shard s.dialogues.supply)
    ++ (flat_map (opened_lines s.records) (map.entries s.dialogues.open_ones) ++ End ∷ [])))

-- The text of lines, each with its line feed.
abbrev pub lines_text : List Line → List ℕ
lines_text lines = flat_map (λ line. line_text line ++ 10 ∷ []) lines

-- The image of a shard, and that of a register: those of its shards, one after the other.
abbrev pub shard_text : ShardState → List ℕ
shard_text s = lines_text (shard_lines s)

abbrev pub image_text : List ShardState → List ℕ
image_text shards = flat_map shard_text shards
