-- The whole lines of a text, one at a time.
use Rattle.std.proofs.Common.{◌≡◌, ℕ, suc, ◌+◌, ◌-◌, List, [], ◌∷◌, ◌++◌, length, length-append, take, refl, sym, ap, ◌∙◌, arith}
use Rattle.std.specs.List.{join_with_byte}
use Rattle.std.proofs.lemmas.List.Splits.{join_with_byte-slice_split}
use Rattle.texts.specs.Lines.{parts}
use Rattle.texts.proofs.PartsLemmas.{parts_cons}
use Rattle.embed.specs.Replay.{whole_lines}

abbrev but_last : List (List ℕ) → List (List ℕ)
but_last between = take (length between - 1) between

-- a text without a line feed has none
pub no_more : (text : List ℕ) → parts 10 text ≡ text ∷ [] → whole_lines text ≡ []
no_more text e = ap but_last e

but_last_cons : (x y : List ℕ) (ys : List (List ℕ)) → but_last (x ∷ y ∷ ys) ≡ x ∷ but_last (y ∷ ys)
but_last_cons x y ys = let one : length (x ∷ y ∷ ys) - 1 ≡ suc (length (y ∷ ys) - 1) = omega arith in rw one refl

-- the first, and those of the rest
pub one_more : (text line rest : List ℕ) → parts 10 text ≡ line ∷ parts 10 rest → whole_lines text ≡ line ∷ whole_lines rest
one_more text line rest e =
    let p = parts_cons 10 rest in
    ap but_last (e ∙ ap (λ (ps : List (List ℕ)). line ∷ ps) p.2) ∙ but_last_cons line p.0 p.1
    ∙ ap (λ (ps : List (List ℕ)). line ∷ but_last ps) (sym p.2)

cut_at : (text line rest : List ℕ) → parts 10 text ≡ line ∷ parts 10 rest → text ≡ line ++ 10 ∷ rest
cut_at text line rest e =
    let p = parts_cons 10 rest in
    sym (join_with_byte-slice_split 10 text) ∙ ap (join_with_byte 10) (e ∙ ap (λ (ps : List (List ℕ)). line ∷ ps) p.2)
    ∙ ap (λ (ps : List (List ℕ)). line ++ 10 ∷ join_with_byte 10 ps) (sym p.2)
    ∙ ap (λ (more : List ℕ). line ++ 10 ∷ more) (join_with_byte-slice_split 10 rest)

-- how many octets come before the rest
pub octets_cut : (text line rest : List ℕ) → parts 10 text ≡ line ∷ parts 10 rest → length (line ++ 10 ∷ []) + length rest ≡ length text
octets_cut text line rest e =
    let whole = ap length (cut_at text line rest e) in
    omega (arith, whole, length-append line (10 ∷ rest), length-append line (10 ∷ []))
