-- The text of an image: its lines, and the first of them that is at fault (profile).
use Rattle.std.specs.Prelude.{◌≡◌, ℕ, ◌+◌, List, [], ◌∷◌, ◌++◌, length, map as each}
use Rattle.std.specs.List.{AllByRecursion}
use Rattle.texts.specs.Lines.{lines}
use Rattle.hlrcore.specs.Shards.{ShardState}
use Rattle.image_lines.specs.Lines.{Line, IsLine, line_text}
use Rattle.images.specs.declared.fault.ImageFault.{ImageFault}
use Rattle.images.specs.declared.fault.ImageFault.TheVariants as fault
use Rattle.images.specs.Reading.{Begins, Image, IsWhole, TakesLine, TakesLines, reading}

-- These are the texts of these lines.
abbrev pub AreTexts : List (List ℕ) → List Line → Type 0
AreTexts texts these = AllByRecursion IsLine these × (texts ≡ each line_text these)

-- No line is read: these are the shards as they begin, of which there is one at least.
abbrev pub IsStart : List ShardState → Image → Type 0
IsStart [] im = ⊥
IsStart (s ∷ later) im = im ≡ record { done = []; now = reading s Begins; later = later }

-- The text is an image: with it, the shards that begin so become these.
pub record IsImage (written : List ℕ) (begin shards : List ShardState) : Type 0 where
  pub these : List Line
  pub start : Image
  pub end : Image
  pub texts : AreTexts (lines written) these
  pub starts : IsStart begin start
  pub takes : TakesLines start these end
  pub whole : IsWhole end shards

-- The lines before line n are those of an image, and line n is none that can follow.
pub record IsFirstFault (written : List ℕ) (begin : List ShardState) (n : ℕ) : Type 0 where
  pub these : List Line
  pub line : List ℕ
  pub rest : List (List ℕ)
  pub start : Image
  pub before : Image
  pub split : lines written ≡ each line_text these ++ line ∷ rest
  pub place : n ≡ length these + 1
  pub are_lines : AllByRecursion IsLine these
  pub starts : IsStart begin start
  pub takes : TakesLines start these before
  pub none : (it : Line) (after : Image) → IsLine it → line ≡ line_text it → ¬ (TakesLine before it after)

-- All lines are those of an image, and more have to follow.
pub record IsCutShort (written : List ℕ) (begin : List ShardState) : Type 0 where
  pub these : List Line
  pub start : Image
  pub end : Image
  pub texts : AreTexts (lines written) these
  pub starts : IsStart begin start
  pub takes : TakesLines start these end
  pub not_whole : (shards : List ShardState) → ¬ (IsWhole end shards)

-- The fault is that of the text; memory can run out with every text.
abbrev pub IsImageFault : (written : List ℕ) → (begin : List ShardState) → ImageFault → Type 0
IsImageFault written begin (fault.Line n) = IsFirstFault written begin n
IsImageFault written begin fault.CutShort = IsCutShort written begin
IsImageFault written begin fault.Memory = Unit {0}
