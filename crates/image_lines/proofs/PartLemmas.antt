-- The first part of a text, and the only one.
use Rattle.std.proofs.Common.{◌≡◌, ℕ, List, [], ◌∷◌, refl, ap, ◌∙◌}
use Rattle.std.specs.Prelude.{Some, None}
use Rattle.texts.specs.Lines.{parts}
use Rattle.texts.proofs.PartsLemmas.{parts_cons}
use Rattle.image_lines.specs.Reading.{first_of, only_of}

pub first_cut : (text first rest : List ℕ) → parts 32 text ≡ first ∷ parts 32 rest → first_of (parts 32 text) ≡ Some (first, parts 32 rest)
first_cut text first rest e =
    let p = parts_cons 32 rest in
    ap first_of e ∙ rw p.2 refl

pub first_alone : (text first : List ℕ) → parts 32 text ≡ first ∷ [] → first_of (parts 32 text) ≡ None
first_alone text first e = ap first_of e

pub only_cut : (text first rest : List ℕ) → parts 32 text ≡ first ∷ parts 32 rest → only_of (parts 32 text) ≡ None
only_cut text first rest e =
    let p = parts_cons 32 rest in
    ap only_of e ∙ rw p.2 refl

pub only_alone : (text first : List ℕ) → parts 32 text ≡ first ∷ [] → only_of (parts 32 text) ≡ Some first
only_alone text first e = ap only_of e
