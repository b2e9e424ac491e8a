-- The image of shards is an image of them, and of no others.
use Rattle.std.proofs.Common.{◌≡◌, ◌∷◌, ℕ, List, [], refl, sym, ap, ◌∙◌, subst, ap₂}
use Rattle.std.specs.Prelude.{map as each}
use Rattle.std.specs.List.{AllByRecursion, flat_map}
use Rattle.machine_laws.proofs.Keys.{some_inj}
use Rattle.texts.specs.Lines.{parts}
use Rattle.hlrcore.specs.Shards.{ShardState}
use Rattle.image_lines.specs.Lines.{Line, IsLine, line_text}
use Rattle.image_lines.specs.Reading.{line_in}
use Rattle.image_lines.proofs.LineLaws.{read_again}
use Rattle.images.specs.Again.{AreReadAgain, EachIsReadAgain}
use Rattle.images.specs.Reading.{Begins, Image, IsWhole, TakesLines, reading}
use Rattle.images.specs.Texts.{IsImage, IsStart}
use Rattle.images.specs.Written.{image_text, shard_lines}
use Rattle.images.proofs.ImageLemmas.{AreRead, read_all, same_lines, same_whole}
use Rattle.images.proofs.TextLemmas.{texts_written}

-- ---- a text has one list of lines

abbrev pub head_or : {X : Type 0} → X → List X → X
head_or x [] = x
head_or x (y ∷ ys) = y

abbrev pub tail_of : {X : Type 0} → List X → List X
tail_of [] = []
tail_of (x ∷ xs) = xs

pub one_line : (a b : Line) → IsLine a → IsLine b → line_text a ≡ line_text b → a ≡ b
one_line a b is are e = some_inj a b _ refl
    (sym (read_again (line_text a) a is refl) ∙ ap (λ t. line_in (parts 32 t)) e ∙ read_again (line_text b) b are refl)

pub one_list : (xs ys : List Line) → AllByRecursion IsLine xs → AllByRecursion IsLine ys → each line_text xs ≡ each line_text ys → xs ≡ ys
one_list [] [] is are e = refl
one_list [] (y ∷ ys) is are e = absurd cc
one_list (x ∷ xs) [] is are e = absurd cc
one_list (x ∷ xs) (y ∷ ys) is are e =
    ap₂ (λ z zs. z ∷ zs) (one_line x y is.0 are.0 (ap (head_or (line_text x)) e)) (one_list xs ys is.1 are.1 (ap tail_of e))

-- ---- written and read

are_read : (shards begin : List ShardState) → EachIsReadAgain shards begin → AreRead shards begin
are_read [] [] h = tt
are_read (s ∷ ss) (o ∷ os) h = (h.0.1 o h.0.0, are_read ss os h.1)
are_read [] (o ∷ os) h = absurd h
are_read (s ∷ ss) [] h = absurd h

pub image_of : (shards begin : List ShardState) → AreReadAgain shards begin → IsImage (image_text shards) begin shards
image_of [] begin h = absurd h
image_of (s ∷ ss) [] h = absurd h
image_of (s ∷ ss) (o ∷ os) h =
    let all = read_all s o ss os (are_read (s ∷ ss) (o ∷ os) h) in
    record {
      these = flat_map shard_lines (s ∷ ss);
      start = record { done = []; now = reading o Begins; later = os };
      end = all.0;
      texts = texts_written (s ∷ ss) (o ∷ os) h;
      starts = refl;
      takes = all.1;
      whole = all.2;
    }

pub one_start : (begin : List ShardState) (a b : Image) → IsStart begin a → IsStart begin b → a ≡ b
one_start [] a b p q = absurd p
one_start (s ∷ later) a b p q = p ∙ sym q

pub one_image : (written : List ℕ) (begin these those : List ShardState) → IsImage written begin these → IsImage written begin those → those ≡ these
one_image written begin these those a b =
    let same = one_list b.these a.these b.texts.0 a.texts.0 (sym b.texts.1 ∙ a.texts.1) in
    let start = one_start begin b.start a.start b.starts a.starts in
    let P : Image → List Line → Type 0 = λ im ls. TakesLines im ls b.end in
    let takes : TakesLines a.start a.these b.end = subst (λ ls. TakesLines a.start ls b.end) same (subst (λ im. TakesLines im b.these b.end) start b.takes) in
    let end : a.end ≡ b.end = same_lines a.these a.start a.end b.end a.takes takes in
    same_whole a.end those these (subst (λ im. IsWhole im those) (sym end) b.whole) a.whole
