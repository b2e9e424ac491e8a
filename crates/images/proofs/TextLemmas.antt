-- The text of an image has its lines.
use Rattle.std.proofs.Common.{◌≡◌, ◌++◌, ◌∷◌, List, [], refl, sym, ap, ◌∙◌, append_assoc}
use Rattle.std.specs.Prelude.{map as each}
use Rattle.std.specs.List.{AllByRecursion, flat_map}
use Rattle.texts.specs.Lines.{lines}
use Rattle.texts.proofs.LinesLemmas.{lines_more, lines_nil}
use Rattle.records.proofs.AgainFields.{parts-front}
use Rattle.hlrcore.specs.Shards.{ShardState}
use Rattle.image_lines.specs.Lines.{Line, IsLine, line_text}
use Rattle.image_lines.proofs.LackLemmas.{line_lacks_feed}
use Rattle.images.specs.Again.{EachIsReadAgain}
use Rattle.images.specs.Texts.{AreTexts}
use Rattle.images.specs.Written.{image_text, lines_text, shard_lines, shard_text}

pub lines_written : (these : List Line) → AllByRecursion IsLine these → lines (lines_text these) ≡ each line_text these
lines_written [] all = lines_nil
lines_written (line ∷ more) all =
    let whole : lines_text (line ∷ more) ≡ line_text line ++ 10 ∷ lines_text more = append_assoc (line_text line) (10 ∷ []) (lines_text more) in
    ap lines whole
    ∙ lines_more (line_text line ++ 10 ∷ lines_text more) (line_text line) (lines_text more) (parts-front 10 (line_text line) (lines_text more) (line_lacks_feed line all.0))
    ∙ ap (λ z. line_text line ∷ z) (lines_written more all.1)

lines_text_more : (these more : List Line) → lines_text (these ++ more) ≡ lines_text these ++ lines_text more
lines_text_more [] more = refl
lines_text_more (line ∷ these) more =
    ap (λ z. (line_text line ++ 10 ∷ []) ++ z) (lines_text_more these more)
    ∙ sym (append_assoc (line_text line ++ 10 ∷ []) (lines_text these) (lines_text more))

image_is : (shards : List ShardState) → image_text shards ≡ lines_text (flat_map shard_lines shards)
image_is [] = refl
image_is (s ∷ ss) = ap (λ z. shard_text s ++ z) (image_is ss) ∙ sym (lines_text_more (shard_lines s) (flat_map shard_lines ss))

all_more : (these more : List Line) → AllByRecursion IsLine these → AllByRecursion IsLine more → AllByRecursion IsLine (these ++ more)
all_more [] more h g = g
all_more (line ∷ these) more h g = (h.0, all_more these more h.1 g)

each_is_line : (shards begin : List ShardState) → EachIsReadAgain shards begin → AllByRecursion IsLine (flat_map shard_lines shards)
each_is_line [] [] h = tt
each_is_line (s ∷ ss) (o ∷ os) h = all_more (shard_lines s) (flat_map shard_lines ss) h.0.2 (each_is_line ss os h.1)
each_is_line [] (o ∷ os) h = absurd h
each_is_line (s ∷ ss) [] h = absurd h

pub texts_written : (shards begin : List ShardState) → EachIsReadAgain shards begin → AreTexts (lines (image_text shards)) (flat_map shard_lines shards)
texts_written shards begin h =
    let all = each_is_line shards begin h in
    (all, ap lines (image_is shards) ∙ lines_written (flat_map shard_lines shards) all)
