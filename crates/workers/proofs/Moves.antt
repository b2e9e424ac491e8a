-- Each step keeps the rule of the channel.
use Rattle.std.proofs.Common.{◌≡◌, ◌≢◌, ◌⊎◌, ℕ, zero, suc, ◌+◌, ◌-◌, ◌<◌, ◌≤◌, true, false, true≢false, List, [], ◌∷◌, ◌++◌, set, sym, refl, ap, ap₂, ◌∙◌, subst, inl, inr, ⊎_elim, append_assoc, arith}
use Rattle.std.specs.Prelude.{sum_by}
use Rattle.std.proofs.lemmas.List.Sums.{sum_by-cons, sum_by-append, sum_by_push}
use mathlib.Core.Option.{some, some-ne-none, some-injective}
use lib.ListN.{get_elem?}
use Rattle.crossbeam_channel.specs.Fifo.{Pushes, Pops, Forks, Merges, Learns}
use Rattle.workers.specs.declared.rule.Work.{Work}
use Rattle.workers.specs.declared.rule.Hand.{Hand}
use Rattle.workers.specs.Hands.{hand, all_shares, IsBatch, MatchesAll, Fits, Kept}

-- the elements after a write, and after a push
at_set : (l : List Hand) (i j : ℕ) (a b : Hand) → get_elem? (set l i a) j ≡ some b → ((j ≡ i) × (a ≡ b)) ⊎ ((j ≢ i) × (get_elem? l j ≡ some b))
at_set [] i j a b e = absurd (some-ne-none b (sym e))
at_set (x ∷ xs) zero zero a b e = inl (refl, some-injective a b e)
at_set (x ∷ xs) zero (suc j) a b e = inr ((λ h. omega arith), e)
at_set (x ∷ xs) (suc i) zero a b e = inr ((λ h. omega arith), e)
at_set (x ∷ xs) (suc i) (suc j) a b e = ⊎_elim (λ t. inl (ap suc t.0, t.1)) (λ t. let n = t.0 in inr ((λ h. n (omega arith)), t.1)) (at_set xs i j a b e)

at_snoc : (l : List Hand) (a b : Hand) (j : ℕ) → get_elem? (l ++ a ∷ []) j ≡ some b → (get_elem? l j ≡ some b) ⊎ (a ≡ b)
at_snoc [] a b zero e = inr (some-injective a b e)
at_snoc [] a b (suc j) e = absurd (some-ne-none b (sym e))
at_snoc (x ∷ xs) a b zero e = inl e
at_snoc (x ∷ xs) a b (suc j) e = at_snoc xs a b j e

-- the total after a change of one pass
total_set : (f : Hand → ℕ) (views : List Hand) (port : ℕ) (v w : Hand) → get_elem? views port ≡ some v
    → sum_by f (set views port w) + f v ≡ sum_by f views + f w
total_set f [] port v w at = absurd (some-ne-none v (sym at))
total_set f (x ∷ xs) zero v w at = let same = ap f (some-injective x v at) in let a = sum_by-cons f x xs in let b = sum_by-cons f w xs in omega arith
total_set f (x ∷ xs) (suc i) v w at =
    let rest = total_set f xs i v w at in let a = sum_by-cons f x xs in let b = sum_by-cons f x (set xs i w) in omega arith

abbrev Each : (ℕ → Hand → Type 0) → List Hand → Type 0
Each F views = (port : ℕ) (v : Hand) → get_elem? views port ≡ some v → F port v

each_set : (F : ℕ → Hand → Type 0) (views : List Hand) (port : ℕ) (w : Hand) → F port w → ((j : ℕ) (u : Hand) → j ≢ port → get_elem? views j ≡ some u → F j u)
    → Each F (set views port w)
each_set F views port w mine others j u at =
    ⊎_elim
    (λ (x : (j ≡ port) × (w ≡ u)). subst (λ (y : ℕ × Hand). F y.0 y.1) (λ i. (sym x.0 i, x.1 i)) mine)
    (λ (x : (j ≢ port) × (get_elem? views j ≡ some u)). others j u x.0 x.1)
    (at_set views port j w u at)

off : false ≡ true → ⊥
off e = true≢false (sym e)

pub begins : Kept [] (hand true all_shares [] [] ∷ [])
begins = record {
  sender = 0;
  got = [];
  batch = tt;
  shares = refl;
  taken = λ weight. refl;
  fits = first;
}
  where
    first : Each (Fits 0 []) (hand true all_shares [] [] ∷ [])
    first zero v at = subst (Fits 0 [] 0) (some-injective _ _ at) ((λ _. (refl, refl)), λ _. refl)
    first (suc port) v at = absurd (some-ne-none v (sym at))

pub sends : (n port : ℕ) (v : Hand) (x : Work) → v.sends ≡ true → IsBatch (v.sent ++ x ∷ [])
    → Pushes Kept n port v x (λ w. w ≡ hand v.sends v.shares (v.sent ++ x ∷ []) v.taken)
sends n port v x may batch items views room h at =
    let w : Hand = hand v.sends v.shares (v.sent ++ x ∷ []) v.taken in
    let mine = h.fits port v at in
    let all : v.sent ++ x ∷ [] ≡ h.got ++ (items ++ x ∷ []) = ap (λ l. l ++ x ∷ []) (mine.0 may).1 ∙ append_assoc h.got items (x ∷ []) in (
      w,
      record {
        sender = h.sender;
        got = h.got;
        batch = subst IsBatch all batch;
        shares = let total = total_set (λ u. u.shares) views port v w at in let was = h.shares in omega arith;
        taken = λ weight. let total = total_set (λ u. sum_by weight u.taken) views port v w at in let was = h.taken weight in omega arith;
        fits = each_set (Fits h.sender (h.got ++ (items ++ x ∷ []))) views port w
            ((λ _. ((mine.0 may).0, all)), mine.1)
            (λ j u other e. let theirs = h.fits j u e in ((λ p. absurd (other ((theirs.0 p).0 ∙ sym (mine.0 may).0))), theirs.1));
      },
      refl,
    )

pub takes : (port : ℕ) (v : Hand) → 0 < v.shares → Pops Kept port v (λ x w. w ≡ hand v.sends v.shares v.sent (v.taken ++ x ∷ []))
takes port v some_share x items views h at =
    let w : Hand = hand v.sends v.shares v.sent (v.taken ++ x ∷ []) in
    let mine = h.fits port v at in
    let same : h.got ++ x ∷ items ≡ (h.got ++ x ∷ []) ++ items = sym (append_assoc h.got (x ∷ []) items) in (
      w,
      record {
        sender = h.sender;
        got = h.got ++ x ∷ [];
        batch = subst IsBatch same h.batch;
        shares = let total = total_set (λ u. u.shares) views port v w at in let was = h.shares in omega arith;
        taken = λ weight.
            let total = total_set (λ u. sum_by weight u.taken) views port v w at in let was = h.taken weight in
            let a = sum_by_push weight h.got x in let b = sum_by_push weight v.taken x in omega arith;
        fits = each_set (Fits h.sender ((h.got ++ x ∷ []) ++ items)) views port w
            ((λ p. ((mine.0 p).0, (mine.0 p).1 ∙ same)), λ none. absurd (omega arith))
            (λ j u other e. let theirs = h.fits j u e in ((λ p. ((theirs.0 p).0, (theirs.0 p).1 ∙ same)), theirs.1));
      },
      refl,
    )

pub hires : (port : ℕ) (v : Hand) → v.sends ≡ true → 1 < v.shares → Forks Kept port v (hand true (v.shares - 1) v.sent v.taken) (hand false 1 [] [])
hires port v may some_share items views h at =
    let l : Hand = hand true (v.shares - 1) v.sent v.taken in
    let r : Hand = hand false 1 [] [] in
    let mine = h.fits port v at in
    let vs : List Hand = set views port l in
    let old : Each (Fits h.sender (h.got ++ items)) vs = each_set (Fits h.sender (h.got ++ items)) views port l
    ((λ _. mine.0 may), λ none. absurd (omega arith)) (λ j u other e. h.fits j u e) in
    record {
      sender = h.sender;
      got = h.got;
      batch = h.batch;
      shares = let total = total_set (λ u. u.shares) views port v l at in let was = h.shares in let more = sum_by_push
          (λ (u : Hand). u.shares) vs r in omega arith;
      taken = λ weight.
          let total = total_set (λ u. sum_by weight u.taken) views port v l at in let was = h.taken weight in
          let more = sum_by_push (λ (u : Hand). sum_by weight u.taken) vs r in omega arith;
      fits = λ j u e. ⊎_elim (λ x. old j u x)
          (λ (is : r ≡ u). subst (Fits h.sender (h.got ++ items) j) is ((λ p. absurd (off p)), λ _. refl)) (at_snoc vs r u j e);
    }

pub joins : (port : ℕ) (v : Hand) (other : ℕ) (u : Hand) → Merges Kept port v other u (hand v.sends (v.shares + u.shares) v.sent (v.taken ++ u.taken))
    (hand false 0 [] [])
joins port v other u items views h at two at' =
    let both : Hand = hand v.sends (v.shares + u.shares) v.sent (v.taken ++ u.taken) in
    let spent : Hand = hand false 0 [] [] in
    let mine = h.fits port v at in
    let vs : List Hand = set views port both in
    let was : get_elem? views other ≡ some u = ⊎_elim (λ x. absurd (two x.0)) (λ x. x.1) (at_set views port other both u at') in
    let theirs = h.fits other u was in
    let old : Each (Fits h.sender (h.got ++ items)) vs = each_set (Fits h.sender (h.got ++ items)) views port both
    (mine.0, λ none. ap₂ ◌++◌ (mine.1 (omega arith)) (theirs.1 (omega arith))) (λ j y _ e. h.fits j y e) in
    record {
      sender = h.sender;
      got = h.got;
      batch = h.batch;
      shares = let one = total_set (λ y. y.shares) views port v both at in let next = total_set
          (λ y. y.shares) vs other u spent at' in let was = h.shares in omega arith;
      taken = λ weight.
          let one = total_set (λ y. sum_by weight y.taken) views port v both at in let next = total_set (λ y. sum_by weight y.taken) vs other u spent at' in
          let was = h.taken weight in let more = sum_by-append weight v.taken u.taken in omega arith;
      fits = each_set (Fits h.sender (h.got ++ items)) vs other spent ((λ p. absurd (off p)), λ _. refl) (λ j y _ e. old j y e);
    }

-- a pass has no more shares than all
share_le : (views : List Hand) (port : ℕ) (v : Hand) → get_elem? views port ≡ some v → v.shares ≤ sum_by (λ u. u.shares) views
share_le [] port v at = absurd (some-ne-none v (sym at))
share_le (x ∷ xs) zero v at = let same = ap (λ (u : Hand). u.shares) (some-injective x v at) in let a = sum_by-cons (λ (u : Hand). u.shares) x xs in omega arith
share_le (x ∷ xs) (suc i) v at = let rest = share_le xs i v at in let a = sum_by-cons (λ (u : Hand). u.shares) x xs in omega arith

-- if no pass has a share, the total is 0
nothing : (f : Hand → ℕ) (views : List Hand) → sum_by (λ u. u.shares) views ≡ 0 → Each (λ _ u. u.shares ≡ 0 → f u ≡ 0) views → sum_by f views ≡ 0
nothing f [] none idle = refl
nothing f (x ∷ xs) none idle =
    let a = sum_by-cons (λ (u : Hand). u.shares) x xs in let b = sum_by-cons f x xs in
    let mine : f x ≡ 0 = idle 0 x refl (omega arith) in
    let rest : sum_by f xs ≡ 0 = nothing f xs (omega arith) (λ j u e. idle (suc j) u e) in omega arith

-- if one pass has every share, the total is its own
alone : (f : Hand → ℕ) (views : List Hand) (port : ℕ) (v : Hand) → get_elem? views port ≡ some v → sum_by (λ u. u.shares) views ≡ v.shares
    → Each (λ _ u. u.shares ≡ 0 → f u ≡ 0) views → sum_by f views ≡ f v
alone f [] port v at all idle = absurd (some-ne-none v (sym at))
alone f (x ∷ xs) zero v at all idle =
    let same = some-injective x v at in
    let a = sum_by-cons (λ (u : Hand). u.shares) x xs in let b = sum_by-cons f x xs in
    let s = ap (λ (u : Hand). u.shares) same in let t = ap f same in
    let rest : sum_by f xs ≡ 0 = nothing f xs (omega arith) (λ j u e. idle (suc j) u e) in omega arith
alone f (x ∷ xs) (suc i) v at all idle =
    let a = sum_by-cons (λ (u : Hand). u.shares) x xs in let b = sum_by-cons f x xs in
    let le = share_le xs i v at in
    let mine : f x ≡ 0 = idle 0 x refl (omega arith) in
    let rest : sum_by f xs ≡ f v = alone f xs i v at (omega arith) (λ j u e. idle (suc j) u e) in omega arith

pub learns : (port : ℕ) (v : Hand) → v.sends ≡ true → v.shares ≡ all_shares → Learns Kept port v (λ items. MatchesAll v.sent v.taken items)
learns port v may all items views h at = (
  h.got,
  ((h.fits port v at).0 may).1,
  λ weight. h.taken weight
      ∙ alone (λ u. sum_by weight u.taken) views port v at (h.shares ∙ sym all) (λ j u e none. ap (sum_by weight) ((h.fits j u e).1 none)),
)
