-- An image as far as it is read, line by line.
use Rattle.std.proofs.Common.{◌≡◌, ◌++◌, ◌∷◌, ◌+◌, ℕ, List, [], Option, Some, None, length, refl, sym, ap, ◌∙◌, arith, append-nil}
use Rattle.std.specs.Prelude.{map as each, option_map, IsNone, Ok}
use Rattle.std.specs.declared.alloc.AllocError.{AllocError}
use Rattle.images.specs.declared.so_far.Image as code_image
use Rattle.images.specs.Seen.{TakesNext}
use Rattle.std.specs.List.{AllByRecursion}
use Rattle.machine_laws.proofs.Keys.{some_inj}
use Rattle.texts.specs.Lines.{lines}
use Rattle.hlrcore.specs.Shards.{ShardState}
use Rattle.image_lines.specs.declared.line.Line as code_line
use Rattle.image_lines.specs.Lines.{Line, IsLine, line_text}
use Rattle.image_lines.specs.Seen.{line_of}
use Rattle.images.specs.Reading.{Image, IsWhole, TakesLine, TakesLines}
use Rattle.images.specs.Texts.{AreTexts, IsCutShort, IsFirstFault, IsImage, IsStart}
use Rattle.images.proofs.ImageLemmas.{lines_more}

-- These lines were read, `before` of them, and led to this; the rest is left.
pub record IsReadSo (written : List ℕ) (begin : List ShardState) (im : Image) (rest : List ℕ) (before : ℕ) : Type 0 where
  pub these : List Line
  pub start : Image
  pub are_lines : AllByRecursion IsLine these
  pub starts : IsStart begin start
  pub takes : TakesLines start these im
  pub split : lines written ≡ each line_text these ++ lines rest
  pub place : before ≡ length these

pub begins_so : (written rest : List ℕ) (begin : List ShardState) (im : Image) (before : ℕ) → rest ≡ written → before ≡ 0 → IsStart begin im
    → IsReadSo written begin im rest before
begins_so written rest begin im before same none starts = record {
  these = [];
  start = im;
  are_lines = tt;
  starts = starts;
  takes = refl;
  split = ap lines (sym same);
  place = none;
}

all_one : (these : List Line) (it : Line) → AllByRecursion IsLine these → IsLine it → AllByRecursion IsLine (these ++ it ∷ [])
all_one [] it all is = (is, tt)
all_one (x ∷ these) it all is = (all.0, all_one these it all.1 is)

each_one : (these : List Line) (it : Line) (more : List (List ℕ)) → each line_text these ++ line_text it ∷ more ≡ each line_text (these ++ it ∷ []) ++ more
each_one [] it more = refl
each_one (x ∷ these) it more = ap (λ z. line_text x ∷ z) (each_one these it more)

count_one : (these : List Line) (it : Line) → length (these ++ it ∷ []) ≡ length these + 1
count_one [] it = refl
count_one (x ∷ these) it = let one : length (these ++ it ∷ []) ≡ length these + 1 = count_one these it in omega (arith, one)

pub one_more : (written rest left line : List ℕ) (begin : List ShardState) (im next : Image) (before after : ℕ) (it : Line)
    → IsReadSo written begin im rest before → lines rest ≡ line ∷ lines left → after ≡ before + 1 → IsLine it → line ≡ line_text it → TakesLine im it next
    → IsReadSo written begin next left after
one_more written rest left line begin im next before after it so cut number is text takes = record {
  these = so.these ++ it ∷ [];
  start = so.start;
  are_lines = all_one so.these it so.are_lines is;
  starts = so.starts;
  takes = lines_more so.these (it ∷ []) so.start im next so.takes (next, takes, refl);
  split = so.split ∙ ap (λ z. each line_text so.these ++ z) (cut ∙ ap (λ z. z ∷ lines left) text) ∙ each_one so.these it (lines left);
  place = number ∙ ap (λ n. n + 1) so.place ∙ sym (count_one so.these it);
}

pub fault_at : (written rest left line : List ℕ) (begin : List ShardState) (im : Image) (before number : ℕ) → IsReadSo written begin im rest before
    → lines rest ≡ line ∷ lines left → number ≡ before + 1
    → ((it : Line) (after : Image) → IsLine it → line ≡ line_text it → TakesLine im it after → ⊥) → IsFirstFault written begin number
fault_at written rest left line begin im before number so cut place none = record {
  these = so.these;
  line = line;
  rest = lines left;
  start = so.start;
  before = im;
  split = so.split ∙ ap (λ z. each line_text so.these ++ z) cut;
  place = place ∙ ap (λ n. n + 1) so.place;
  are_lines = so.are_lines;
  starts = so.starts;
  takes = so.takes;
  none = none;
}

all_read : (written rest : List ℕ) (begin : List ShardState) (im : Image) (before : ℕ) (so : IsReadSo written begin im rest before) → lines rest ≡ []
    → AreTexts (lines written) so.these
all_read written rest begin im before so none = (so.are_lines, so.split ∙ ap (λ z. each line_text so.these ++ z) none ∙ append-nil _)

pub whole_at : (written rest : List ℕ) (begin shards : List ShardState) (im : Image) (before : ℕ) → IsReadSo written begin im rest before → lines rest ≡ []
    → IsWhole im shards → IsImage written begin shards
whole_at written rest begin shards im before so none whole = record {
  these = so.these;
  start = so.start;
  end = im;
  texts = all_read written rest begin im before so none;
  starts = so.starts;
  takes = so.takes;
  whole = whole;
}

pub short_at : (written rest : List ℕ) (begin : List ShardState) (im : Image) (before : ℕ) → IsReadSo written begin im rest before → lines rest ≡ []
    → ((shards : List ShardState) → IsWhole im shards → ⊥) → IsCutShort written begin
short_at written rest begin im before so none never = record {
  these = so.these;
  start = so.start;
  end = im;
  texts = all_read written rest begin im before so none;
  starts = so.starts;
  takes = so.takes;
  not_whole = never;
}

-- ---- what a text is read as

pub not_read : (r : Option code_line.Line) (it : Line) → ((x : code_line.Line) → r ≡ Some x → ⊥) → option_map line_of r ≡ Some it → ⊥
not_read None it never e = absurd cc
not_read (Some x) it never e = never x refl

pub read_as : (r : Option code_line.Line) (x : code_line.Line) (it : Line) → r ≡ Some x → option_map line_of r ≡ Some it → line_of x ≡ it
read_as r x it is e = some_inj (line_of x) it _ refl (sym (ap (option_map line_of) is) ∙ e)

pub is_none : {X : Type 0} (o : Option X) → ((x : X) → o ≡ Some x → ⊥) → IsNone o
is_none None never = refl
is_none (Some x) never = absurd (never x refl)

pub none_next : (Next : Image → Type 0) (o : Option code_image.Image) → ((x : code_image.Image) → o ≡ Some x → ⊥)
    → TakesNext {E = AllocError} Next (Ok o) → (im : Image) → Next im → ⊥
none_next Next None never h im is = h im is
none_next Next (Some x) never h im is = never x refl
