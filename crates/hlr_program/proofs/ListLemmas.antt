-- What is listed if it is asked for.
use Rattle.std.proofs.Common.{◌≡◌, ℕ, Bool, true, false, List, [], ◌∷◌, ◌++◌, refl, sym, ap, subst, ◌∙◌}
use Rattle.std.specs.Prelude.{Result, Ok, Err, IfErr, OnOk}
use Rattle.std.specs.List.{flat_map}
use Rattle.std.proofs.lemmas.List.{append-nil}
use Rattle.texts.proofs.LinesLemmas.{lines_nil}
use Rattle.shardlog.specs.Log.{Log}
use Rattle.hlr_program.specs.Closing.{Asked, Closes, Lists, SavesLines, behind_v}
use Rattle.std.specs.Prelude.{codes as text}

-- a fact if a call succeeds, or if it fails
pub then_on : {A E P Q : Type 0} (r : Result A E) → OnOk r P → (P → Q) → OnOk r Q
then_on (Ok a) h f = f h
then_on (Err e) h f = tt

pub then_both : {A E P Q R : Type 0} (r : Result A E) → OnOk r P → OnOk r Q → (P → Q → R) → OnOk r R
then_both (Ok a) h k f = f h k
then_both (Err e) h k f = tt

pub else_on : {A E : Type 0} (P Q : E → Type 0) (r : Result A E) → IfErr r P → ((e : E) → P e → Q e) → IfErr r Q
else_on P Q (Ok a) h f = tt
else_on P Q (Err e) h f = f e h

is_asked : (b : Bool) (P : List ℕ → Type 0) (xs : List ℕ) → b ≡ true → P xs → Asked b P xs
is_asked b P xs e h = subst (λ (c : Bool). Asked c P xs) (sym e) h

pub asked_for : {A E : Type 0} (r : Result A E) (b : Bool) (P : List ℕ → Type 0) (old new : List ℕ) → b ≡ true
    → OnOk r ((xs : List ℕ) × P xs × (new ≡ old ++ xs))
    → OnOk r ((xs : List ℕ) × Asked b P xs × (new ≡ old ++ xs))
asked_for r b P old new e h = then_on r h (λ (xs, is, added). (xs, is_asked b P xs e is, added))

pub not_asked_for : (b : Bool) (P : List ℕ → Type 0) (old : List ℕ) → b ≡ false → (xs : List ℕ) × Asked b P xs × (old ≡ old ++ xs)
not_asked_for b P old e = ([], subst (λ (c : Bool). Asked c P []) (sym e) refl, sym (append-nil old))

behind_v_nil : behind_v [] ≡ []
behind_v_nil = ap (λ (ls : List (List ℕ)). flat_map (λ line. text "V " ++ line ++ 10 ∷ []) ls) lines_nil

-- all lines are after `V `
pub all_behind_v : (rest now file before : List ℕ) → rest ≡ [] → now ++ behind_v rest ≡ before ++ behind_v file → now ≡ before ++ behind_v file
all_behind_v rest now file before none h = sym (append-nil now) ∙ ap (λ (l : List ℕ). now ++ l) (sym (ap (λ (r : List ℕ). behind_v r) none ∙ behind_v_nil)) ∙ h

pub closes : (list save : Bool) (shards : List Log) (empty mid end : List ℕ) → empty ≡ [] → (xs : List ℕ) × Asked list (Lists shards) xs × (mid ≡ empty ++ xs)
    → (ys : List ℕ) × Asked save (SavesLines shards) ys × (end ≡ mid ++ ys) → Closes list save shards end
closes list save shards empty mid end none (xs, lists, first) (ys, saves, second) = record {
  listed = xs;
  saved = ys;
  is_listed = lists;
  is_saved = saves;
  whole = second ∙ ap (λ (l : List ℕ). l ++ ys) (first ∙ ap (λ (l : List ℕ). l ++ xs) none);
}
