use Rattle.std.proofs.Common.{◌≡◌, ℕ, List, [], ◌∷◌, ◌++◌, Option, ap, ◌∙◌}
use Rattle.std.specs.Prelude.{pos}
use Rattle.std.specs.FinMap as map
use Rattle.std.specs.List.{flat_map}
use Rattle.hlr_types.specs.Orders.{octets_cmp}
use Rattle.machine.specs.State.{Dialogue, OperationSent}
use Rattle.dialogues.specs.Dialogues.{gone_on}
use Rattle.records.specs.Maps.{DirectoryMap, RecordMap}
use Rattle.records.specs.Subscriber.{Subscriber}
use Rattle.image_lines.specs.Lines.{Line, Shard, Used, Opened, Waits, End}
use Rattle.image_lines.proofs.ReadingOf.{reading}
use Rattle.images.specs.Examples as example
use Rattle.images.specs.Written.{is_current, lines_text, opened_lines, shard_text}
use Rattle.images.proofs.examples.law_marked_updates.Goals as goal

-- the lines of the shard, with those of its open dialogues
abbrev lines_with : List Line → List Line
lines_with opened = Shard 1 7 0 ∷ Used example.id ∷ (opened ++ End ∷ [])

-- those of the update, if this is the record of its subscriber
abbrev of_update : Option Subscriber → List Line
of_update r =
    Waits (record { id = pos 1; was = OperationSent; deadline = 27 }) ∷ Opened example.id (is_current example.id r) (gone_on [] example.update) ∷ []

written : (r : Option Subscriber) (records : RecordMap) (open_ones : map.FinMap octets_cmp Dialogue) (directory : DirectoryMap) (hlr : List ℕ)
    → map.entries open_ones ≡ (example.id, example.update) ∷ [] → map.get records example.imsi ≡ r
    → shard_text (example.shard records open_ones directory hlr) ≡ lines_text (lines_with (of_update r))
written r records open_ones directory hlr entries found =
    ap (λ (es : List (List ℕ × Dialogue)). lines_text (lines_with (flat_map (opened_lines records) es))) entries
    ∙ ap (λ (o : Option Subscriber). lines_text (lines_with (of_update o))) found

pub returns : goal.returns
unfolding reading
returns c = record { current = written _; overtaken = written _; not_marked = written _; nobody = written _ }
