-- A text that is cut short, or has a line at fault, is no image.
use Rattle.std.proofs.Common.{◌≡◌, ◌++◌, ◌∷◌, ℕ, List, [], refl, sym, ap, ap₂, ◌∙◌, subst}
use Rattle.std.specs.Prelude.{map as each}
use Rattle.std.specs.List.{AllByRecursion}
use Rattle.hlrcore.specs.Shards.{ShardState}
use Rattle.image_lines.specs.Lines.{Line, IsLine, line_text}
use Rattle.images.specs.Reading.{Image, IsWhole, TakesLine, TakesLines}
use Rattle.images.specs.Texts.{IsCutShort, IsFirstFault, IsImage}
use Rattle.images.proofs.AgainLemmas.{head_or, one_line, one_list, one_start, tail_of}
use Rattle.images.proofs.ImageLemmas.{same_lines}

-- The lines begin with these, and one more with this text.
record Splits (lines these : List Line) (text : List ℕ) : Type 0 where
  it : Line
  more : List Line
  whole : lines ≡ these ++ it ∷ more
  is_line : IsLine it
  text_is : text ≡ line_text it

splits : (these lines : List Line) (text : List ℕ) (rest : List (List ℕ)) → AllByRecursion IsLine these → AllByRecursion IsLine lines
    → each line_text lines ≡ each line_text these ++ text ∷ rest → Splits lines these text
splits [] [] text rest is are e = absurd cc
splits [] (l ∷ lines) text rest is are e = record { it = l; more = lines; whole = refl; is_line = are.0; text_is = sym (ap (head_or (line_text l)) e) }
splits (x ∷ these) [] text rest is are e = absurd cc
splits (x ∷ these) (l ∷ lines) text rest is are e =
    let next = splits these lines text rest is.1 are.1 (ap tail_of e) in record {
      it = next.it;
      more = next.more;
      whole = ap₂ (λ z zs. z ∷ zs) (one_line l x are.0 is.0 (ap (head_or (line_text l)) e)) next.whole;
      is_line = next.is_line;
      text_is = next.text_is;
    }

parted : (these more : List Line) (a c : Image) → TakesLines a (these ++ more) c → (b : Image) × TakesLines a these b × TakesLines b more c
parted [] more a c t = (a, refl, t)
parted (line ∷ these) more a c t = let rest = parted these more t.0 c t.2 in (rest.0, (t.0, t.1, rest.1), rest.2)

pub no_fault : (written : List ℕ) (begin shards : List ShardState) (n : ℕ) → IsImage written begin shards → IsFirstFault written begin n → ⊥
no_fault written begin shards n im f =
    let s = splits f.these im.these f.line f.rest f.are_lines im.texts.0 (sym im.texts.1 ∙ f.split) in
    let P : List Line → Type 0 = λ z. TakesLines im.start z im.end in
    let cut = parted f.these (s.it ∷ s.more) im.start im.end (subst P s.whole im.takes) in
    let Q : Image → Type 0 = λ z. TakesLines z f.these f.before in
    let same : cut.0 ≡ f.before =
    same_lines f.these im.start cut.0 f.before cut.1 (subst Q (sym (one_start begin im.start f.start im.starts f.starts)) f.takes) in
    let R : Image → Type 0 = λ z. TakesLine z s.it cut.2.0 in
    f.none s.it cut.2.0 s.is_line s.text_is (subst R same cut.2.1)

pub no_end : (written : List ℕ) (begin shards : List ShardState) → IsImage written begin shards → IsCutShort written begin → ⊥
no_end written begin shards im c =
    let these : im.these ≡ c.these = one_list im.these c.these im.texts.0 c.texts.0 (sym im.texts.1 ∙ c.texts.1) in
    let P : List Line → Type 0 = λ z. TakesLines im.start z im.end in
    let Q : Image → Type 0 = λ z. TakesLines z c.these c.end in
    let same : im.end ≡ c.end =
    same_lines c.these im.start im.end c.end (subst P these im.takes) (subst Q (sym (one_start begin im.start c.start im.starts c.starts)) c.takes) in
    c.not_whole shards (subst (λ z. IsWhole z shards) same im.whole)
