-- A text that is written piece by piece.
use Rattle.std.proofs.Common.{◌≡◌, ℕ, List, [], ◌++◌, take, drop, refl, sym, ap, subst, ◌∙◌, append_assoc, take-append-drop}
use Rattle.std.specs.Prelude.{Option}
use Rattle.std.specs.Io.KnownBytes.{Appends, Keeps}
use Rattle.std.proofs.KnownBytes.{Appends-nil, Appends-trans, Appends-kept}
use Rattle.std.proofs.lemmas.List.{append-nil}
use Rattle.hlr_program.specs.Printed.{WritesFront}

-- the text without what is left follows what was there
pub record Writing (old : Option (List ℕ)) (all left : List ℕ) (here : Option (List ℕ)) : Type 0 where
  pub written : List ℕ
  pub whole : all ≡ written ++ left
  pub appends : Appends old here written

pub writing_begins : (old : Option (List ℕ)) (all : List ℕ) → Writing old all all old
writing_begins old all = record { written = []; whole = refl; appends = Appends-nil old }

pub writing_goes_on : (old : Option (List ℕ)) (all left more : List ℕ) (here next : Option (List ℕ)) (n : ℕ) → Writing old all left here
    → Appends here next (take n left) → more ≡ drop n left
    → Writing old all more next
writing_goes_on old all left more here next n h took rest = record {
  written = h.written ++ take n left;
  whole = h.whole ∙ ap (λ (l : List ℕ). h.written ++ l) (sym (take-append-drop n left) ∙ ap (λ (l : List ℕ). take n left ++ l) (sym rest))
      ∙ sym (append_assoc h.written (take n left) more);
  appends = Appends-trans old here next h.written (take n left) h.appends took;
}

pub writing_kept : (old : Option (List ℕ)) (all left : List ℕ) (here next : Option (List ℕ)) → Writing old all left here → Keeps here next
    → Writing old all left next
writing_kept old all left here next h kept = record { written = h.written; whole = h.whole; appends = Appends-kept old here next h.written h.appends kept }

pub writing_ends : (old : Option (List ℕ)) (all left : List ℕ) (here : Option (List ℕ)) → Writing old all left here → left ≡ [] → Appends old here all
writing_ends old all left here h none =
    subst (λ (l : List ℕ). Appends old here l) (sym (h.whole ∙ ap (λ (l : List ℕ). h.written ++ l) none ∙ append-nil h.written)) h.appends

pub writing_stops : (old : Option (List ℕ)) (all left : List ℕ) (here : Option (List ℕ)) → Writing old all left here → WritesFront old all here
writing_stops old all left here h = record { written = h.written; left = left; whole = h.whole; appends = h.appends }
