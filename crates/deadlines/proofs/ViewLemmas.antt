-- The finite map that the indexes stand for, after several deadlines are set.
use Rattle.std.proofs.Common.{◌≡◌, ℕ, cond, List, [], ◌∷◌, Some, refl, sym, ap, ◌∙◌}
use Rattle.std.specs.Prelude.{Result, Ok, Err, OnOk, OnErr}
use Rattle.std.specs.Cmp.{eq_by_cmp_equiv}
use Rattle.std.specs.BTreeMap as tree
use Rattle.std.specs.FinMap as map
use Rattle.deadlines.specs.declared.timer.Invocation.{Invocation}
use Rattle.deadlines.specs.declared.timer.Timer.{Timer}
use Rattle.deadlines.specs.Timers.{DeadlineMap, set_all}
use Rattle.deadlines.specs.Index.{deadline_of, deadline_after}
use Rattle.deadlines.proofs.Views.{get_view}
use Rattle.deadlines.proofs.KeyLemmas.{invocation_total, invocation_exact}

pub get-set_all : (m : DeadlineMap) (ts : List Timer) (q : Invocation) → map.get (set_all m ts) q ≡ deadline_after ts q (map.get m q)
get-set_all m [] q = refl
get-set_all m (t ∷ ts) q =
    get-set_all (map.insert m t.invocation t.deadline) ts q
    ∙ ap (deadline_after ts q) (map.get-insert invocation_total m t.invocation t.deadline q
    ∙ ap (λ b. cond b (Some t.deadline) (map.get m q)) (sym ((eq_by_cmp_equiv invocation_total).symm t.invocation q)))

pub view_all : (m n : tree.BTreeMap Invocation ℕ) (ts : List Timer) → ((q : Invocation) → deadline_of n q ≡ deadline_after ts q (deadline_of m q))
    → map.from_entries n.entries ≡ set_all (map.from_entries m.entries) ts
view_all m n ts h = map.same_map invocation_total invocation_exact _ _ (λ q.
    get_view invocation_total n.entries q ∙ h q
    ∙ sym (get-set_all (map.from_entries m.entries) ts q ∙ ap (deadline_after ts q) (get_view invocation_total m.entries q)))

pub view_alike : (m n : tree.BTreeMap Invocation ℕ) → ((q : Invocation) → deadline_of n q ≡ deadline_of m q)
    → ◌≡◌ {A = DeadlineMap} (map.from_entries n.entries) (map.from_entries m.entries)
view_alike m n h = map.same_map invocation_total invocation_exact _ _
    (λ q. get_view invocation_total n.entries q ∙ h q ∙ sym (get_view invocation_total m.entries q))

pub on_ok_then : {A E P Q : Type 0} (r : Result A E) → (P → Q) → OnOk r P → OnOk r Q
on_ok_then (Ok a) f p = f p
on_ok_then (Err e) f p = tt

pub on_err_then : {A E P Q : Type 0} (r : Result A E) → (P → Q) → OnErr r P → OnErr r Q
on_err_then (Ok a) f p = tt
on_err_then (Err e) f p = f p
