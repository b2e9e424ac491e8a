-- The set of timers after an insertion or a removal.
use Rattle.std.proofs.Common.{◌≡◌, Bool, true, false, cond, not, ◌&&◌, ◌||◌, refl, sym, ap, ◌∙◌}
use Rattle.std.specs.Cmp.{eq_by_cmp_equiv}
use Rattle.std.specs.BTreeSet as sorted
use Rattle.std.specs.FinSet as set
use Rattle.deadlines.specs.declared.timer.Timer.{Timer}
use Rattle.deadlines.specs.Timers.{TimerSet, timer_cmp}
use Rattle.deadlines.specs.Index.{has, is_timer}
use Rattle.deadlines.proofs.KeyLemmas.{timer_total, timer_exact, same_timer}

either : (b c : Bool) → (b || c) ≡ cond b true c
either true c = refl
either false c = refl

neither : (b c : Bool) → (not b && c) ≡ cond b false c
neither true c = refl
neither false c = refl

pub has_insert : (s : TimerSet) (k q : Timer) → has (set.insert s k) q ≡ cond (is_timer k q) true (has s q)
has_insert s k q = set.contains-insert timer_total s k q ∙ ap (λ b. b || has s q) ((eq_by_cmp_equiv timer_total).symm q k) ∙ either (is_timer k q) (has s q)

pub has_remove : (s : TimerSet) (k q : Timer) → has (set.remove s k) q ≡ cond (is_timer k q) false (has s q)
has_remove s k q = set.contains-remove timer_total s k q ∙ ap (λ b. not b && has s q) ((eq_by_cmp_equiv timer_total).symm q k)
    ∙ neither (is_timer k q) (has s q)

-- the tree that it stands in

pub has_key : (s : sorted.BTreeSet Timer) (q : Timer) → has (set.from_list s.keys) q ≡ sorted.contains timer_cmp s q
has_key s q = set.contains-from_list timer_total s.keys q

pub set_insert : (s n : sorted.BTreeSet Timer) (k : Timer)
    → ((q : Timer) → sorted.contains timer_cmp n q ≡ cond (is_timer k q) true (sorted.contains timer_cmp s q))
    → ◌≡◌ {A = TimerSet} (set.from_list n.keys) (set.insert (set.from_list s.keys) k)
set_insert s n k h = set.same_set timer_total timer_exact _ _
    (λ q. has_key n q ∙ h q ∙ sym (has_insert (set.from_list s.keys) k q ∙ ap (cond (is_timer k q) true) (has_key s q)))

pub set_remove : (s n : sorted.BTreeSet Timer) (k : Timer)
    → ((q : Timer) → sorted.contains timer_cmp n q ≡ cond (is_timer k q) false (sorted.contains timer_cmp s q))
    → ◌≡◌ {A = TimerSet} (set.from_list n.keys) (set.remove (set.from_list s.keys) k)
set_remove s n k h = set.same_set timer_total timer_exact _ _
    (λ q. has_key n q ∙ h q ∙ sym (has_remove (set.from_list s.keys) k q ∙ ap (cond (is_timer k q) false) (has_key s q)))

-- an insertion is undone, or changed nothing

pub undone : (s : TimerSet) (k : Timer) → has s k ≡ false → set.remove (set.insert s k) k ≡ s
undone s k new = set.same_set timer_total timer_exact _ s
    (λ q. has_remove (set.insert s k) k q ∙ ap (cond (is_timer k q) false) (has_insert s k q) ∙ by (is_timer k q) q refl)
  where
    by : (b : Bool) (q : Timer) → is_timer k q ≡ b → cond b false (cond b true (has s q)) ≡ has s q
    by true q e = sym new ∙ ap (has s) (same_timer k q e)
    by false q e = refl

pub unchanged : (s : TimerSet) (k : Timer) → has s k ≡ true → set.insert s k ≡ s
unchanged s k old = set.same_set timer_total timer_exact _ s (λ q. has_insert s k q ∙ by (is_timer k q) q refl)
  where
    by : (b : Bool) (q : Timer) → is_timer k q ≡ b → cond b true (has s q) ≡ has s q
    by true q e = sym old ∙ ap (has s) (same_timer k q e)
    by false q e = refl

pub turned : (a b : Bool) → not a ≡ b → a ≡ not b
turned true b e = ap not e
turned false b e = ap not e
