-- The lines of a text, one at a time.
use Rattle.std.proofs.Common.{◌≡◌, ℕ, ◌<◌, List, [], ◌∷◌, length, refl, sym, ap, ◌∙◌, arith}
use Rattle.std.specs.Prelude.{◌==◌}
use Rattle.std.specs.List.{join_with_byte}
use Rattle.std.proofs.lemmas.Bool.{ne_eqb, cond-false}
use Rattle.std.proofs.lemmas.List.Splits.{join_with_byte-slice_split}
use Rattle.texts.specs.Lines.{parts, lines}
use Rattle.texts.proofs.PartsLemmas.{parts_cons}

pub lines_nil : lines [] ≡ []
unfolding lines
lines_nil = refl

pub lines_more : (text line rest : List ℕ) → parts 10 text ≡ line ∷ parts 10 rest → lines text ≡ line ∷ lines rest
unfolding lines
lines_more text line rest e = let p = parts_cons 10 rest in rw (e, p.2) refl

pub lines_last : (text line : List ℕ) → 0 < length text → parts 10 text ≡ line ∷ [] → lines text ≡ line ∷ lines []
unfolding lines
lines_last text line some e =
    let whole : line ≡ text = ap (join_with_byte 10) (sym e) ∙ join_with_byte-slice_split 10 text in
    let long : length line ≡ length text = ap length whole in
    rw e (cond-false (length line == 0) [] (line ∷ []) (ne_eqb (length line) 0 (omega arith)))
