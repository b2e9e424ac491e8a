-- The timers of invocations that come and go.
use Rattle.std.proofs.Common.{◌≡◌, ℕ, ◌==◌, ℤ, List, [], ◌∷◌, Bool, true, false, cond, not, ◌&&◌, ◌||◌, Some, None, refl, sym, ap, ◌∙◌, subst, Ordering, Less, Equal, Greater, is_eq, int_eq}
use Rattle.std.specs.Ordering.{nat_cmp, ordering_then}
use Rattle.std.specs.Cmp.{int_eq_equiv, unsigned_tied}
use Rattle.std.specs.FinSet as set
use Rattle.machine.specs.State.{Invocation}
use Rattle.machine.specs.Expiries.{without}
use Rattle.machine.specs.Turns.{invocation_of}
use Rattle.machine_laws.proofs.Rising.{IsMap, int_is}
use Rattle.deadlines.specs.declared.timer.Timer.{Timer}
use Rattle.deadlines.specs.Timers.{TimerSet}
use Rattle.deadlines.specs.Index.{has, is_timer}
use Rattle.deadlines.proofs.SetLemmas.{has_remove}
use Rattle.csl.specs.Tables.{HaveTimers, InvocationLists, has_timer, invocations_at, is_of, is_only, is_timed, put_list, timer_at}
use Rattle.csl.proofs.Places.{NoneHas}
use Rattle.csl.proofs.Putting.{at-put_list, is_its, nat_is, nat_same, same_id}

-- ---- one timer

then_both : (r s : Ordering) → is_eq (ordering_then r s) ≡ (is_eq r && is_eq s)
then_both Less s = refl
then_both Equal s = refl
then_both Greater s = refl

-- a timer of the dialogue's invocation
pub timer_is : (id : List ℕ) (v : Invocation) (t : Timer)
    → is_timer (timer_at id v) t ≡ (is_its id t.invocation.id && is_timed t.invocation.invoke t.deadline v)
timer_is id v t =
    then_both _ _ ∙ ap (λ b. is_eq (nat_cmp v.deadline t.deadline) && b) (then_both _ _)
    ∙ ap (λ b. b && (is_its id t.invocation.id && int_eq v.id t.invocation.invoke)) (unsigned_tied v.deadline t.deadline)
    ∙ turn (v.deadline == t.deadline) (is_its id t.invocation.id) (int_eq v.id t.invocation.invoke)
  where
    turn : (n i j : Bool) → (n && (i && j)) ≡ (i && (j && n))
    turn true true true = refl
    turn true true false = refl
    turn true false j = refl
    turn false true true = refl
    turn false true false = refl
    turn false false j = refl

left_of : (a b : Bool) → (a && b) ≡ true → a ≡ true
left_of true b e = refl
left_of false b e = cc

right_of : (a b : Bool) → (a && b) ≡ true → b ≡ true
right_of true b e = e
right_of false b e = cc

timed_id : (j : ℤ) (d : ℕ) (v : Invocation) → is_timed j d v ≡ true → v.id ≡ j
timed_id j d v e = int_is v.id j (left_of (int_eq v.id j) (v.deadline == d) e)

timed_deadline : (j : ℤ) (d : ℕ) (v : Invocation) → is_timed j d v ≡ true → v.deadline ≡ d
timed_deadline j d v e = nat_is v.deadline d (right_of (int_eq v.id j) (v.deadline == d) e)

-- ---- one more timer is inserted or removed

-- x is what the timers of these become
pub of_more : (id : List ℕ) (own : Invocation) (rest : List Invocation) (t : Timer) (x o : Bool)
    → cond (is_of id (own ∷ rest) t) x o ≡ cond (is_of id rest t) x (cond (is_timer (timer_at id own) t) x o)
of_more id own rest t x o =
    at (is_its id t.invocation.id) (is_timed t.invocation.invoke t.deadline own) (has_timer rest t.invocation.invoke t.deadline)
    ∙ ap (λ b. cond (is_of id rest t) x (cond b x o)) (sym (timer_is id own t))
  where
    at : (i b r : Bool) → cond (i && (b || r)) x o ≡ cond (i && r) x (cond (i && b) x o)
    at false b r = refl
    at true true true = refl
    at true true false = refl
    at true false r = refl

pub of_none : (id : List ℕ) (t : Timer) (x o : Bool) → o ≡ cond (is_of id [] t) x o
of_none id t x o = by (is_its id t.invocation.id)
  where
    by : (b : Bool) → o ≡ cond (b && false) x o
    by true = refl
    by false = refl

module _ (id : List ℕ) (own : Invocation) (rest : List Invocation) (t : Timer) where
  module _ (others : List Invocation) where
    abbrev other : Bool
    other = has_timer others t.invocation.invoke t.deadline

    same_others : (b : Bool) → has_timer others own.id own.deadline ≡ b → is_timed t.invocation.invoke t.deadline own ≡ true → other ≡ b
    same_others b e q = sym (ap (λ j. has_timer others j own.deadline) (timed_id t.invocation.invoke t.deadline own q)
        ∙ ap (has_timer others t.invocation.invoke) (timed_deadline t.invocation.invoke t.deadline own q)) ∙ e

    pub only_kept : has_timer others own.id own.deadline ≡ true → is_only id (own ∷ rest) others t ≡ is_only id rest others t
    only_kept stays =
        by (is_its id t.invocation.id) (is_timed t.invocation.invoke t.deadline own) refl (has_timer rest t.invocation.invoke t.deadline)
      where
        by : (i b : Bool) → is_timed t.invocation.invoke t.deadline own ≡ b → (r : Bool)
            → ((i && (b || r)) && not other) ≡ ((i && r) && not other)
        by false b q r = refl
        by true true q true = refl
        by true true q false = ap not (same_others true stays q)
        by true false q r = refl

    -- x is what the timers of these become: true where they are inserted, and false where they are removed
    pub only_more : (x o : Bool) → has_timer others own.id own.deadline ≡ false
        → cond (is_only id (own ∷ rest) others t) x o ≡ cond (is_only id rest others t) x (cond (is_timer (timer_at id own) t) x o)
    only_more x o goes =
        at (is_its id t.invocation.id) (is_timed t.invocation.invoke t.deadline own) refl (has_timer rest t.invocation.invoke t.deadline)
        ∙ ap (λ b. cond (is_only id rest others t) x (cond b x o)) (sym (timer_is id own t))
      where
        same : (b : Bool) → x ≡ cond b x x
        same true = refl
        same false = refl

        at : (i b : Bool) → is_timed t.invocation.invoke t.deadline own ≡ b → (r : Bool)
            → cond ((i && (b || r)) && not other) x o ≡ cond ((i && r) && not other) x (cond (i && b) x o)
        at false b q r = refl
        at true true q r = ap (λ h. cond (not h) x o) (same_others false goes q) ∙ same (r && not other)
        at true false q r = refl

pub only_none : (id : List ℕ) (others : List Invocation) (t : Timer) (x o : Bool) → o ≡ cond (is_only id [] others t) x o
only_none id others t x o = by (is_its id t.invocation.id)
  where
    by : (b : Bool) → o ≡ cond ((b && false) && not (has_timer others t.invocation.invoke t.deadline)) x o
    by true = refl
    by false = refl

-- ---- the timers of a dialogue are replaced

-- whether one of these has the timer
abbrev among : Timer → List Invocation → Bool
among t vs = has_timer vs t.invocation.invoke t.deadline

module _ (lists : InvocationLists) (d : TimerSet) (id : List ℕ) (have : HaveTimers lists d) where
  had : (t : Timer) → is_its id t.invocation.id ≡ true → has d t ≡ among t (invocations_at lists id)
  had t its = have t ∙ ap (λ i. among t (invocations_at lists i)) (sym (same_id id t.invocation.id its))

  -- the timers of this dialogue are those of this list, the others stay
  have_put : (new : InvocationLists) (list : List Invocation) (d' : TimerSet) → new ≡ put_list lists id list
      → ((t : Timer) → is_its id t.invocation.id ≡ true → has d' t ≡ among t list)
      → ((t : Timer) → is_its id t.invocation.id ≡ false → has d' t ≡ has d t) → HaveTimers new d'
  have_put new list d' is own other t = by (is_its id t.invocation.id) refl
      ∙ ap (among t) (sym (ap (λ (l : InvocationLists). invocations_at l t.invocation.id) is ∙ at-put_list lists id list t.invocation.id))
    where
      by : (b : Bool) → is_its id t.invocation.id ≡ b → has d' t ≡ among t (cond b list (invocations_at lists t.invocation.id))
      by true e = own t e
      by false e = other t e ∙ have t

  module _ (list : List Invocation) (d₁ : TimerSet) (inserted : (t : Timer) → has d₁ t ≡ cond (is_of id list t) true (has d t)) where
    inserted_own : (t : Timer) → is_its id t.invocation.id ≡ true → has d₁ t ≡ cond (among t list) true (among t (invocations_at lists id))
    inserted_own t e = inserted t ∙ ap (λ b. cond (b && among t list) true (has d t)) e ∙ ap (cond (among t list) true) (had t e)

    inserted_other : (t : Timer) → is_its id t.invocation.id ≡ false → has d₁ t ≡ has d t
    inserted_other t e = inserted t ∙ ap (λ b. cond (b && among t list) true (has d t)) e

    -- the dialogue had none
    pub have_first : invocations_at lists id ≡ [] → (new : InvocationLists) → new ≡ put_list lists id list → HaveTimers new d₁
    have_first none new is = have_put new list d₁ is
        (λ t e. inserted_own t e ∙ ap (λ vs. cond (among t list) true (among t vs)) none ∙ either (among t list)) inserted_other
      where
        either : (b : Bool) → cond b true false ≡ b
        either true = refl
        either false = refl

    -- those that only the old list had are removed
    pub have_replaced : (new : InvocationLists) (d₂ : TimerSet) → new ≡ put_list lists id list
        → ((t : Timer) → has d₂ t ≡ cond (is_only id (invocations_at lists id) list t) false (has d₁ t)) → HaveTimers new d₂
    have_replaced new d₂ is removed = have_put new list d₂ is
        (λ t e. removed t ∙ ap (λ b. cond ((b && w t) && not (among t list)) false (has d₁ t)) e
        ∙ ap (cond (w t && not (among t list)) false) (inserted_own t e) ∙ pick (w t) (among t list))
        (λ t e. removed t ∙ ap (λ b. cond ((b && w t) && not (among t list)) false (has d₁ t)) e ∙ inserted_other t e)
      where
        w : Timer → Bool
        w t = among t (invocations_at lists id)

        pick : (a b : Bool) → cond (a && not b) false (cond b true a) ≡ b
        pick true true = refl
        pick true false = refl
        pick false true = refl
        pick false false = refl

    -- the new list was refused, and the dialogue had none
    pub have_taken_back : (new : InvocationLists) (d₂ : TimerSet) → new ≡ lists → invocations_at lists id ≡ []
        → ((t : Timer) → has d₂ t ≡ cond (is_only id list [] t) false (has d₁ t)) → HaveTimers new d₂
    have_taken_back new d₂ same none back t =
        back t ∙ by (is_its id t.invocation.id) refl ∙ have t
        ∙ ap (λ (l : InvocationLists). among t (invocations_at l t.invocation.id)) (sym same)
      where
        gone : (b : Bool) → cond (b && true) false (cond b true false) ≡ false
        gone true = refl
        gone false = refl

        by : (b : Bool) → is_its id t.invocation.id ≡ b → cond ((b && among t list) && true) false (has d₁ t) ≡ has d t
        by true e = ap (cond (among t list && true) false)
            (inserted_own t e ∙ ap (λ vs. cond (among t list) true (among t vs)) none)
            ∙ gone (among t list) ∙ sym (had t e ∙ ap (among t) none)
        by false e = inserted_other t e

  -- they are removed

  pub have_none : invocations_at lists id ≡ [] → (new : InvocationLists) → new ≡ put_list lists id [] → HaveTimers new d
  have_none none new is = have_put new [] d is (λ t e. had t e ∙ ap (among t) none) (λ t e. refl)

  pub have_forgotten : (d' : TimerSet) → ((t : Timer) → has d' t ≡ cond (is_only id (invocations_at lists id) [] t) false (has d t))
      → (new : InvocationLists) → new ≡ put_list lists id [] → HaveTimers new d'
  have_forgotten d' gone new is = have_put new [] d' is own other
    where
      none : (b : Bool) → cond (b && true) false b ≡ false
      none true = refl
      none false = refl

      own : (t : Timer) → is_its id t.invocation.id ≡ true → has d' t ≡ false
      own t e = gone t ∙ ap (λ b. cond ((b && among t (invocations_at lists id)) && true) false (has d t)) e
          ∙ ap (cond (among t (invocations_at lists id) && true) false) (had t e) ∙ none (among t (invocations_at lists id))

      other : (t : Timer) → is_its id t.invocation.id ≡ false → has d' t ≡ has d t
      other t e = gone t ∙ ap (λ b. cond ((b && among t (invocations_at lists id)) && true) false (has d t)) e

-- ---- one invocation

pub none_timed : (j : ℤ) (d : ℕ) (vs : List Invocation) → NoneHas j vs → has_timer vs j d ≡ false
none_timed j d [] h = refl
none_timed j d (v ∷ vs) h = ap (λ b. (b && (v.deadline == d)) || has_timer vs j d) h.0 ∙ none_timed j d vs h.1

-- an invocation that stands has its timer
pub timer_stands : (j : ℤ) (vs : List Invocation) (v : Invocation) → invocation_of j vs ≡ Some v → has_timer vs j v.deadline ≡ true
timer_stands j [] v e = cc
timer_stands j (u ∷ us) v e = by (int_eq u.id j) e (timer_stands j us v)
  where
    any : (b : Bool) → (b || true) ≡ true
    any true = refl
    any false = refl

    by : (b : Bool) → cond b (Some u) (invocation_of j us) ≡ Some v → (invocation_of j us ≡ Some v → has_timer us j v.deadline ≡ true)
        → ((b && (u.deadline == v.deadline)) || has_timer us j v.deadline) ≡ true
    by true q rest =
        let same : u ≡ v = cc in
        ap (λ b. b || has_timer us j v.deadline) (nat_same u.deadline v.deadline (ap (λ (w : Invocation). w.deadline) same))
    by false q rest = rest q

-- and it has no other
pub timer_of_it : (j : ℤ) (d : ℕ) (vs : List Invocation) (v : Invocation) → IsMap vs → invocation_of j vs ≡ Some v
    → has_timer vs j d ≡ true → v.deadline ≡ d
timer_of_it j d [] v m e h = cc
timer_of_it j d (u ∷ us) v m e h = by (int_eq u.id j) refl e h (timer_of_it j d us v m.1)
  where
    here : (b : Bool) → (u.deadline == d) ≡ b → u.id ≡ j → (b || has_timer us j d) ≡ true → u.deadline ≡ d
    here true q same h = nat_is u.deadline d q
    here false q same h = let x : false ≡ true = sym (none_timed j d us (subst (λ k. NoneHas k us) same m.0)) ∙ h in cc

    by : (b : Bool) → int_eq u.id j ≡ b → cond b (Some u) (invocation_of j us) ≡ Some v → ((b && (u.deadline == d)) || has_timer us j d) ≡ true
        → (invocation_of j us ≡ Some v → has_timer us j d ≡ true → v.deadline ≡ d) → v.deadline ≡ d
    by true q e h rest = let same : u ≡ v = cc in sym (ap (λ (w : Invocation). w.deadline) same) ∙ here (u.deadline == d) refl (int_is u.id j q) h
    by false q e h rest = rest e h

without_absent : (j : ℤ) (vs : List Invocation) → invocation_of j vs ≡ None → vs ≡ without j vs
without_absent j [] e = refl
without_absent j (v ∷ vs) e = by (int_eq v.id j) e (without_absent j vs)
  where
    by : (b : Bool) → cond b (Some v) (invocation_of j vs) ≡ None → (invocation_of j vs ≡ None → vs ≡ without j vs)
        → v ∷ vs ≡ cond b vs (v ∷ without j vs)
    by true q rest = cc
    by false q rest = ap (λ us. v ∷ us) (rest q)

-- without the invocation that stands under an id

int_self : (i j : ℤ) → i ≡ j → int_eq i j ≡ true
int_self i j e = ap (int_eq i) (sym e) ∙ int_eq_equiv.refl i

stands_id : (j : ℤ) (vs : List Invocation) (own : Invocation) → invocation_of j vs ≡ Some own → own.id ≡ j
stands_id j [] own e = cc
stands_id j (v ∷ vs) own e = by (int_eq v.id j) refl e (stands_id j vs own)
  where
    by : (b : Bool) → int_eq v.id j ≡ b → cond b (Some v) (invocation_of j vs) ≡ Some own
        → (invocation_of j vs ≡ Some own → own.id ≡ j) → own.id ≡ j
    by true q s rest = let same : v ≡ own = cc in sym (ap (λ (u : Invocation). u.id) same) ∙ int_is v.id j q
    by false q s rest = rest s

timer_without : (j i : ℤ) (d : ℕ) (vs : List Invocation) (own : Invocation) → IsMap vs → invocation_of j vs ≡ Some own
    → has_timer (without j vs) i d ≡ cond (is_timed i d own) false (has_timer vs i d)
timer_without j i d [] own m e = cc
timer_without j i d (v ∷ vs) own m e = by (int_eq v.id j) refl e (timer_without j i d vs own m.1)
  where
    first : (b : Bool) → is_timed i d v ≡ b → has_timer vs i d ≡ cond b false (b || has_timer vs i d)
    first true q = none_timed i d vs (subst (λ k. NoneHas k vs) (timed_id i d v q) m.0)
    first false q = refl

    later : (b a : Bool) → is_timed i d own ≡ b → int_eq v.id j ≡ false → is_timed i d v ≡ a → own.id ≡ j
        → (a || cond b false (has_timer vs i d)) ≡ cond b false (a || has_timer vs i d)
    later false a q differs r is = refl
    later true false q differs r is = refl
    later true true q differs r is =
        let same : v.id ≡ j = timed_id i d v r ∙ sym (timed_id i d own q) ∙ is in
        let x : true ≡ false = sym (int_self v.id j same) ∙ differs in
        cc

    by : (b : Bool) → int_eq v.id j ≡ b → cond b (Some v) (invocation_of j vs) ≡ Some own
        → (invocation_of j vs ≡ Some own → has_timer (without j vs) i d ≡ cond (is_timed i d own) false (has_timer vs i d))
        → has_timer (cond b vs (v ∷ without j vs)) i d ≡ cond (is_timed i d own) false (has_timer (v ∷ vs) i d)
    by true q s rest =
        let same : v ≡ own = cc in
        first (is_timed i d v) refl ∙ ap (λ (u : Invocation). cond (is_timed i d u) false (has_timer (v ∷ vs) i d)) same
    by false q s rest = ap (λ b. is_timed i d v || b) (rest s)
        ∙ later (is_timed i d own) (is_timed i d v) refl q refl (stands_id j vs own s)

module _ (lists : InvocationLists) (d : TimerSet) (id : List ℕ) (have : HaveTimers lists d) (j : ℤ) where
  pub have_one_less : (own : Invocation) (d' : TimerSet) → IsMap (invocations_at lists id)
      → invocation_of j (invocations_at lists id) ≡ Some own → d' ≡ set.remove d (timer_at id own)
      → (new : InvocationLists) → new ≡ put_list lists id (without j (invocations_at lists id)) → HaveTimers new d'
  have_one_less own d' m stands gone new is = have_put lists d id have new (without j (invocations_at lists id)) d' is
      (λ t e. removed t ∙ ap (λ b. cond (b && is_timed t.invocation.invoke t.deadline own) false (has d t)) e
      ∙ ap (cond (is_timed t.invocation.invoke t.deadline own) false) (had lists d id have t e)
      ∙ sym (timer_without j t.invocation.invoke t.deadline (invocations_at lists id) own m stands))
      (λ t e. removed t ∙ ap (λ b. cond (b && is_timed t.invocation.invoke t.deadline own) false (has d t)) e)
    where
      removed : (t : Timer) → has d' t ≡ cond (is_its id t.invocation.id && is_timed t.invocation.invoke t.deadline own) false (has d t)
      removed t = ap (λ (s : TimerSet). has s t) gone ∙ has_remove d (timer_at id own) t ∙ ap (λ b. cond b false (has d t)) (timer_is id own t)

  pub have_as_many : (new : InvocationLists) → invocation_of j (invocations_at lists id) ≡ None
      → new ≡ put_list lists id (without j (invocations_at lists id)) → HaveTimers new d
  have_as_many new none is = have_put lists d id have new (without j (invocations_at lists id)) d is
      (λ t e. had lists d id have t e ∙ ap (among t) (without_absent j (invocations_at lists id) none)) (λ t e. refl)
