-- The two indexes change together.
use Rattle.std.proofs.Common.{◌≡◌, ℕ, Bool, true, false, cond, not, ◌||◌, ◌⊎◌, inl, inr, Option, Some, None, refl, sym, ap, ◌∙◌, subst}
use Rattle.std.specs.Prelude.{Result, Ok, Err, OnOk, OnErr}
use Rattle.deadlines.specs.declared.timer.Invocation.{Invocation}
use Rattle.deadlines.specs.declared.timer.Timer.{Timer}
use Rattle.deadlines.specs.Index.{is_invocation, is_timer, IsIndexBut, IsIndex, was}
use Rattle.deadlines.proofs.KeyLemmas.{same_invocation, same_timer, own_invocation, own_timer}

cond_true : (b : Bool) → cond b true true ≡ true
cond_true true = refl
cond_true false = refl

or_left : (a b : Bool) → a ≡ true → (a || b) ≡ true
or_left true b e = refl
or_left false b e = cc

or_right : (a b : Bool) → b ≡ true → (a || b) ≡ true
or_right true b e = refl
or_right false b e = e

some_same : (x y : ℕ) → Some x ≡ Some y → x ≡ y
some_same x y e = cc

-- a deadline is put in: the old one is stale
module _ (stale : Timer → Bool) (M0 M1 : Invocation → Option ℕ) (S0 S1 : Timer → Bool) (timer : Timer)
    (map_put : (q : Invocation) → M1 q ≡ cond (is_invocation timer.invocation q) (Some timer.deadline) (M0 q))
    (index_put : (t : Timer) → S1 t ≡ cond (is_timer timer t) true (S0 t)) (is : IsIndexBut stale M0 S0) where
  put_all : (t : Timer) → M1 t.invocation ≡ Some t.deadline → S1 t ≡ true
  put_all t e = by_case (is_invocation timer.invocation t.invocation) refl
    where
      by_case : (b : Bool) → is_invocation timer.invocation t.invocation ≡ b → S1 t ≡ true
      by_case true own =
          let at : Some timer.deadline ≡ Some t.deadline = sym (map_put t.invocation ∙ ap (λ b. cond b (Some timer.deadline) (M0 t.invocation)) own) ∙ e in
          let same : timer ≡ t = ap (λ (d : ℕ). record { deadline = d; invocation = timer.invocation }) (some_same _ _ at)
          ∙ ap (λ (k : Invocation). record { deadline = t.deadline; invocation = k }) (same_invocation _ _ own) in
          index_put t ∙ ap (λ b. cond b true (S0 t)) (own_timer timer t same)
      by_case false other =
          let here : S0 t ≡ true = is.all t (sym (map_put t.invocation ∙ ap (λ b. cond b (Some timer.deadline) (M0 t.invocation)) other) ∙ e) in
          index_put t ∙ ap (cond (is_timer timer t) true) here ∙ cond_true (is_timer timer t)

  put_only : (t : Timer) → S1 t ≡ true → (M1 t.invocation ≡ Some t.deadline) ⊎ ((stale t || was (M0 timer.invocation) timer.invocation t) ≡ true)
  put_only t h = by_case (is_timer timer t) refl
    where
      old : (b : Bool) → is_invocation timer.invocation t.invocation ≡ b → M0 t.invocation ≡ Some t.deadline
          → (M1 t.invocation ≡ Some t.deadline) ⊎ ((stale t || was (M0 timer.invocation) timer.invocation t) ≡ true)
      old true own e =
          let k : timer.invocation ≡ t.invocation = same_invocation _ _ own in
          let had : M0 timer.invocation ≡ Some t.deadline = ap M0 k ∙ e in
          let it : is_timer (record { deadline = t.deadline; invocation = timer.invocation }) t
          ≡ true = own_timer _ t (ap (λ (i : Invocation). record { deadline = t.deadline; invocation = i }) k) in
          inr (or_right (stale t) _ (ap (λ o. was o timer.invocation t) had ∙ it))
      old false other e = inl (map_put t.invocation ∙ ap (λ b. cond b (Some timer.deadline) (M0 t.invocation)) other ∙ e)

      by_case : (b : Bool) → is_timer timer t ≡ b → (M1 t.invocation ≡ Some t.deadline) ⊎ ((stale t || was (M0 timer.invocation) timer.invocation t) ≡ true)
      by_case true own =
          let same : timer ≡ t = same_timer timer t own in
          let k : is_invocation timer.invocation t.invocation ≡ true = own_invocation _ _ (ap (λ (u : Timer). u.invocation) same) in
          inl (map_put t.invocation ∙ ap (λ b. cond b (Some timer.deadline) (M0 t.invocation)) k ∙ ap (λ (u : Timer). Some u.deadline) same)
      by_case false other =
          elim (is.only t (sym (index_put t ∙ ap (λ b. cond b true (S0 t)) other) ∙ h)) [
            | inl e ↦ old (is_invocation timer.invocation t.invocation) refl e
            | inr s ↦ inr (or_left (stale t) _ s)
          ]

  pub after_put : IsIndexBut (λ t. stale t || was (M0 timer.invocation) timer.invocation t) M1 S1
  after_put = record { all = put_all; only = put_only }

-- the old deadline is removed from the index by time, unless it is in the map again
pub after_drop : (stale : Timer → Bool) (before : Option ℕ) (k : Invocation) (M : Invocation → Option ℕ) (S2 S3 : Timer → Bool)
    → ((t : Timer) → M t.invocation ≡ Some t.deadline → S3 t ≡ S2 t) → ((t : Timer) → S3 t ≡ true → S2 t ≡ true)
    → ((t : Timer) → was before k t ≡ true → S3 t ≡ true → M t.invocation ≡ Some t.deadline)
    → IsIndexBut (λ t. stale t || was before k t) M S2 → IsIndexBut stale M S3
after_drop stale before k M S2 S3 kept gone dropped is = record { all = λ t e. kept t e ∙ is.all t e; only = only }
  where
    either : (t : Timer) (a : Bool) → stale t ≡ a → (a || was before k t) ≡ true → S3 t ≡ true → (M t.invocation ≡ Some t.deadline) ⊎ (stale t ≡ true)
    either t true s o h = inr s
    either t false s o h = inl (dropped t o h)

    only : (t : Timer) → S3 t ≡ true → (M t.invocation ≡ Some t.deadline) ⊎ (stale t ≡ true)
    only t h = elim (is.only t (gone t h)) [
      | inl e ↦ inl e
      | inr o ↦ either t (stale t) refl o h
    ]

-- what was put in is undone
pub taken_map : (k : Invocation) (d : ℕ) (before : Option ℕ) (M0 M1 M2 M3 : Invocation → Option ℕ) → before ≡ M0 k
    → ((q : Invocation) → M1 q ≡ cond (is_invocation k q) (Some d) (M0 q)) → ((q : Invocation) → M2 q ≡ M1 q)
    → ((q : Invocation) → M3 q ≡ cond (is_invocation k q) before (M2 q)) → (q : Invocation) → M3 q ≡ M0 q
taken_map k d before M0 M1 M2 M3 was_before put same back q = back q ∙ ap (cond (is_invocation k q) before) (same q ∙ put q) ∙ by_case (is_invocation k q) refl
  where
    by_case : (b : Bool) → is_invocation k q ≡ b → cond b before (cond b (Some d) (M0 q)) ≡ M0 q
    by_case true own = was_before ∙ ap M0 (same_invocation k q own)
    by_case false other = refl

pub taken_index : (timer : Timer) (is_new : Bool) (S0 S1 S2 S3 : Timer → Bool) → is_new ≡ not (S0 timer)
    → ((t : Timer) → S1 t ≡ cond (is_timer timer t) true (S0 t)) → ((t : Timer) → S2 t ≡ S1 t)
    → ((t : Timer) → S3 t ≡ cond is_new (cond (is_timer timer t) false (S2 t)) (S2 t)) → (t : Timer) → S3 t ≡ S0 t
taken_index timer is_new S0 S1 S2 S3 was_new put same back t =
    back t ∙ ap (λ b. cond is_new (cond (is_timer timer t) false b) b) (same t ∙ put t) ∙ by_case is_new (is_timer timer t) (S0 timer) refl refl refl
  where
    by_case : (n i o : Bool) → is_new ≡ n → is_timer timer t ≡ i → S0 timer ≡ o → cond n (cond i false (cond i true (S0 t))) (cond i true (S0 t)) ≡ S0 t
    by_case n false o e f g = both n
      where
        both : (n : Bool) → cond n (S0 t) (S0 t) ≡ S0 t
        both true = refl
        both false = refl
    by_case true true false e f g = sym g ∙ ap S0 (same_timer timer t f)
    by_case false true true e f g = sym g ∙ ap S0 (same_timer timer t f)
    by_case true true true e f g = let x : true ≡ false = sym e ∙ was_new ∙ ap not g in cc
    by_case false true false e f g = let x : false ≡ true = sym e ∙ was_new ∙ ap not g in cc

-- with nothing stale
pub index_of_but : (M : Invocation → Option ℕ) (S : Timer → Bool) → IsIndexBut (λ t. false) M S → IsIndex M S
index_of_but M S is = record { all = is.all; only = λ t h. elim (is.only t h) [ inl e ↦ e | inr e ↦ cc ] }

pub but_of_index : (M : Invocation → Option ℕ) (S : Timer → Bool) → IsIndex M S → IsIndexBut (λ t. false) M S
but_of_index M S is = record { all = is.all; only = λ t h. inl (is.only t h) }

-- equal functions are an index too
pub index_alike : (M N : Invocation → Option ℕ) (S T : Timer → Bool) → ((q : Invocation) → N q ≡ M q) → ((t : Timer) → T t ≡ S t) → IsIndex M S → IsIndex N T
index_alike M N S T m s is = record {
  all = λ t e. s t ∙ is.all t (sym (m t.invocation) ∙ e);
  only = λ t h. m t.invocation ∙ is.only t (sym (s t) ∙ h);
}

-- a deadline is removed
pub index_clear : (M N : Invocation → Option ℕ) (S T : Timer → Bool) (k : Invocation) (d : ℕ) → M k ≡ Some d
    → ((q : Invocation) → N q ≡ cond (is_invocation k q) None (M q))
    → ((t : Timer) → T t ≡ cond (is_timer (record { deadline = d; invocation = k }) t) false (S t))
    → IsIndex M S → IsIndex N T
index_clear M N S T k d had m s is = record { all = all; only = only }
  where
    all : (t : Timer) → N t.invocation ≡ Some t.deadline → T t ≡ true
    all t e = by_case (is_invocation k t.invocation) refl
      where
        by_case : (b : Bool) → is_invocation k t.invocation ≡ b → T t ≡ true
        by_case true own = let x : None ≡ Some t.deadline = sym (m t.invocation ∙ ap (λ b. cond b None (M t.invocation)) own) ∙ e in cc
        by_case false other =
            let apart : is_timer (record { deadline = d; invocation = k }) t ≡ false = differ (is_timer (record { deadline = d; invocation = k }) t) refl in
            s t ∙ ap (λ b. cond b false (S t)) apart ∙ is.all t (sym (m t.invocation ∙ ap (λ b. cond b None (M t.invocation)) other) ∙ e)
          where
            differ : (b : Bool) → is_timer (record { deadline = d; invocation = k }) t ≡ b → b ≡ false
            differ true own =
                let x : is_invocation k t.invocation ≡ true = own_invocation k t.invocation
                (ap (λ (u : Timer). u.invocation) (same_timer (record { deadline = d; invocation = k }) t own)) in
                sym x ∙ other
            differ false e = refl

    only : (t : Timer) → T t ≡ true → N t.invocation ≡ Some t.deadline
    only t h = by_case (is_timer (record { deadline = d; invocation = k }) t) refl
      where
        by_case : (b : Bool) → is_timer (record { deadline = d; invocation = k }) t ≡ b → N t.invocation ≡ Some t.deadline
        by_case true own = let x : false ≡ true = sym (s t ∙ ap (λ b. cond b false (S t)) own) ∙ h in cc
        by_case false other =
            let here : M t.invocation ≡ Some t.deadline = is.only t (sym (s t ∙ ap (λ b. cond b false (S t)) other) ∙ h) in
            m t.invocation ∙ ap (λ b. cond b None (M t.invocation)) (differ (is_invocation k t.invocation) refl here) ∙ here
          where
            differ : (b : Bool) → is_invocation k t.invocation ≡ b → M t.invocation ≡ Some t.deadline → b ≡ false
            differ true own e =
                let same : k ≡ t.invocation = same_invocation k t.invocation own in
                let at : Some d ≡ Some t.deadline = sym had ∙ ap M same ∙ e in
                let it : record { deadline = d; invocation = k }
                ≡ t = ap (λ (n : ℕ). record { deadline = n; invocation = k }) (some_same d t.deadline at)
                ∙ ap (λ (i : Invocation). record { deadline = t.deadline; invocation = i }) same in
                sym (own_timer (record { deadline = d; invocation = k }) t it) ∙ other
            differ false own e = refl

-- a deadline that an invocation no longer has is removed
pub was_same : (before : Option ℕ) (d : ℕ) (k : Invocation) (t : Timer) → before ≡ Some d → was before k t ≡ true → record { deadline = d; invocation = k } ≡ t
was_same None d k t e w = cc
was_same (Some n) d k t e w = ap (λ (n : ℕ). record { deadline = n; invocation = k }) (sym (some_same n d e))
    ∙ same_timer (record { deadline = n; invocation = k }) t w

pub stands_still : (M : Invocation → Option ℕ) (d : ℕ) (k : Invocation) (t : Timer) → record { deadline = d; invocation = k } ≡ t → M k ≡ Some d
    → M t.invocation ≡ Some t.deadline
stands_still M d k t same e = subst (λ (u : Timer). M u.invocation ≡ Some u.deadline) same e

pub drop_kept : (M : Invocation → Option ℕ) (x : Timer) (S T : Timer → Bool) → ((t : Timer) → T t ≡ cond (is_timer x t) false (S t))
    → (M x.invocation ≡ Some x.deadline → ⊥)
    → (t : Timer) → M t.invocation ≡ Some t.deadline → T t ≡ S t
drop_kept M x S T drop gone t e = by_case (is_timer x t) refl
  where
    by_case : (b : Bool) → is_timer x t ≡ b → T t ≡ S t
    by_case true own = absurd (gone (subst (λ (u : Timer). M u.invocation ≡ Some u.deadline) (sym (same_timer x t own)) e))
    by_case false other = drop t ∙ ap (λ b. cond b false (S t)) other

pub drop_gone : (x : Timer) (S T : Timer → Bool) → ((t : Timer) → T t ≡ cond (is_timer x t) false (S t)) → (t : Timer) → T t ≡ true → S t ≡ true
drop_gone x S T drop t h = by_case (is_timer x t) refl
  where
    by_case : (b : Bool) → is_timer x t ≡ b → S t ≡ true
    by_case true own = let e : false ≡ true = sym (drop t ∙ ap (λ b. cond b false (S t)) own) ∙ h in cc
    by_case false other = sym (drop t ∙ ap (λ b. cond b false (S t)) other) ∙ h

-- whether putting in the deadlines succeeded or failed, the result is an index
pub index_kept : {A E : Type 0} (r : Result A E) (M N : Invocation → Option ℕ) (S T : Timer → Bool)
    → OnOk r ((stale : Timer → Bool) → IsIndexBut stale M S → IsIndexBut stale N T) → OnErr r ((q : Invocation) → N q ≡ M q) → OnErr r ((t : Timer) → T t ≡ S t)
    → IsIndex M S → IsIndex N T
index_kept (Ok a) M N S T put m s is = index_of_but N T (put (λ t. false) (but_of_index M S is))
index_kept (Err e) M N S T put m s is = index_alike M N S T m s is
