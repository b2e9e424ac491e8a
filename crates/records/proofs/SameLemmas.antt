-- Whether maps are equal, by their entries.
use Rattle.std.proofs.Common.{◌≡◌, ℕ, Bool, ◌&&◌, eqb, List, sym, ap, ◌∙◌}
use Rattle.std.specs.Bool.{Decides}
use Rattle.std.specs.Cmp.Lexicographic.{pointwise, bytes_decides}
use Rattle.std.specs.List.Sorted.{IsStrictlySortedBy}
use Rattle.std.specs.Map.{keys_of}
use Rattle.std.specs.FinMap as map
use Rattle.std.proofs.lemmas.Bool.Decides.{Decides-like, Decides-and}
use Rattle.records.specs.Maps.{digits_cmp}
use Rattle.records.proofs.MapLemmas.{entries_of_view}

-- maps of trees are equal if their entries are
pub same_maps : {X : Type 0} (es fs : List (List ℕ × X)) (m n : map.FinMap digits_cmp X) (r : Bool) → map.from_entries es ≡ m → map.from_entries fs ≡ n
    → IsStrictlySortedBy digits_cmp (keys_of es) → IsStrictlySortedBy digits_cmp (keys_of fs) → Decides r (es ≡ fs) → Decides r (m ≡ n)
same_maps es fs m n r mine theirs ordered others same = (
  (λ t. sym mine ∙ ap map.from_entries (same.0 t) ∙ theirs),
  λ e. same.1 (sym (entries_of_view es ordered) ∙ ap map.entries (mine ∙ e ∙ sym theirs) ∙ entries_of_view fs others),
)

pub same_pair : (a b : List ℕ × List ℕ) → Decides (pointwise eqb a.0 b.0 && pointwise eqb a.1 b.1) (a ≡ b)
same_pair a b = Decides-like _ (λ e. λ i. (e.0 i, e.1 i)) (λ e. (ap (λ p. p.0) e, ap (λ p. p.1) e))
    (Decides-and _ _ (bytes_decides a.0 b.0) (bytes_decides a.1 b.1))
