-- The lists of the dialogues, by look-ups.
use Rattle.std.proofs.Common.{arith, ◌==◌, eqb, length, get_or, ◌≡◌, ℕ, ◌+◌, ◌*◌, ◌/◌, ◌%◌, ◌<◌, ℤ, ◌⊎◌, inl, inr, List, [], ◌∷◌, ◌++◌, map, Bool, true, false, cond, Option, Some, None, refl, sym, ap, ◌∙◌, subst, is_eq}
use Rattle.std.specs.Prelude.{IfSome, IfNone, option_map}
use Rattle.std.specs.Option.{IsSome}
use Rattle.std.specs.List.{position, remove, AllZip, each_same}
use Rattle.std.specs.Int.{from_le_bytes, w32}
use Rattle.std.specs.Ordering.{nat_cmp}
use Rattle.std.specs.Cmp.{eq_by_cmp_equiv, Equal-is, nat_cmp_total, tied_itself, unsigned_tied}
use Rattle.std.specs.FinMap.{nat_cmp-IsAntisymmetric}
use Rattle.std.specs.Map.{lookup}
use Rattle.std.specs.BTreeMap.{is_at}
use Rattle.std.specs.FinMap as finite
use Rattle.std.specs.HashMap as hash
use Rattle.smallvec.specs.SmallVec.{SmallVec}
use Rattle.hlr_types.specs.Orders.{octets_cmp}
use Rattle.hlr_types.proofs.OrderLemmas.{cases_octets, ne_octets, octets_total, octets_exact}
use Rattle.machine.specs.State.{Invocation}
use Rattle.machine.specs.Effect.{AreRising}
use Rattle.machine.specs.Expiries.{without}
use Rattle.csl.specs.Endings.{has_id}
use Rattle.csl.proofs.Places.{NoneHas, parts_of, remove_at}
use Rattle.csl.specs.Tables.{InvocationLists, list_in, invocations_at, put_list, items_of, lists_of, octets_of, IsStored, AreStored}

-- whether two local ids are the same
abbrev pub is_its : List ℕ → List ℕ → Bool
is_its id q = is_at (octets_cmp id) q

pub same_id : (id q : List ℕ) → is_its id q ≡ true → id ≡ q
same_id id q e = octets_exact id q ((Equal-is (octets_cmp id q)).0 e)

pub own_id : (id : List ℕ) → is_its id id ≡ true
own_id id = ap is_eq (tied_itself octets_total id)

abbrev pub stored_list : List Invocation → Option (List Invocation)
stored_list [] = None
stored_list (v ∷ vs) = Some (v ∷ vs)

pub get-put_list : (lists : InvocationLists) (id : List ℕ) (vs : List Invocation) (q : List ℕ)
    → finite.get (put_list lists id vs) q ≡ cond (is_its id q) (stored_list vs) (finite.get lists q)
get-put_list lists id [] q = finite.get-remove octets_total lists id q ∙ ap (λ b. cond b None (finite.get lists q)) ((eq_by_cmp_equiv octets_total).symm q id)
get-put_list lists id (v ∷ vs) q = finite.get-insert octets_total lists id (v ∷ vs) q
    ∙ ap (λ b. cond b (Some (v ∷ vs)) (finite.get lists q)) ((eq_by_cmp_equiv octets_total).symm q id)

pub is_put : (lists new : InvocationLists) (id : List ℕ) (vs : List Invocation)
    → ((q : List ℕ) → finite.get new q ≡ cond (is_its id q) (stored_list vs) (finite.get lists q)) → new ≡ put_list lists id vs
is_put lists new id vs h = finite.same_map octets_total octets_exact new (put_list lists id vs) (λ q. h q ∙ sym (get-put_list lists id vs q))

-- what is stored

pub rising_at : (lists : InvocationLists) (id : List ℕ) → AreStored lists → AreRising (invocations_at lists id)
rising_at lists id s = by (finite.get lists id) (s id)
  where
    by : (o : Option (List Invocation)) → IfSome o IsStored → AreRising (list_in o)
    by None h = tt
    by (Some vs) h = h.rising

stored_as : (o : Option (List Invocation)) → IfSome o IsStored → o ≡ stored_list (list_in o)
stored_as None h = refl
stored_as (Some []) h = absurd (h.some refl)
stored_as (Some (v ∷ vs)) h = refl

-- putting back what is there changes nothing
pub put_same : (lists : InvocationLists) (id : List ℕ) → AreStored lists → lists ≡ put_list lists id (invocations_at lists id)
put_same lists id s = is_put lists lists id (invocations_at lists id) (λ q. by (is_its id q) q refl)
  where
    by : (b : Bool) (q : List ℕ) → is_its id q ≡ b → finite.get lists q ≡ cond b (stored_list (invocations_at lists id)) (finite.get lists q)
    by true q e = ap (finite.get lists) (sym (same_id id q e)) ∙ stored_as (finite.get lists id) (s id)
    by false q e = refl

pub stored_put : (lists : InvocationLists) (id : List ℕ) (vs : List Invocation) → AreStored lists → AreRising vs → AreStored (put_list lists id vs)
stored_put lists id vs s r q = subst (λ o. IfSome o IsStored) (sym (get-put_list lists id vs q)) (by (is_its id q) vs r)
  where
    by : (b : Bool) (us : List Invocation) → AreRising us → IfSome (cond b (stored_list us) (finite.get lists q)) IsStored
    by false us g = s q
    by true [] g = tt
    by true (u ∷ us) g = record { some = λ e. cc; rising = g }

pub stored_none : AreStored finite.empty
stored_none q = subst (λ o. IfSome o IsStored) (sym (finite.get-empty octets_cmp q)) tt

pub at-put_list : (lists : InvocationLists) (id : List ℕ) (vs : List Invocation) (q : List ℕ)
    → invocations_at (put_list lists id vs) q ≡ cond (is_its id q) vs (invocations_at lists q)
at-put_list lists id vs q = ap list_in (get-put_list lists id vs q) ∙ by (is_its id q) vs
  where
    by : (b : Bool) (us : List Invocation) → list_in (cond b (stored_list us) (finite.get lists q)) ≡ cond b us (invocations_at lists q)
    by true [] = refl
    by true (u ∷ us) = refl
    by false us = refl

-- an empty list, by its length

pub items_none : (vs : List Invocation) → (length vs == 0) ≡ true → vs ≡ []
items_none [] e = refl
items_none (v ∷ vs) e = let none : length (v ∷ vs) ≡ 0 = grind arith in absurd (omega (arith, none))

pub items_some : (vs : List Invocation) → (length vs == 0) ≡ false → Some vs ≡ stored_list vs
items_some [] e = cc
items_some (v ∷ vs) e = refl

-- two numbers

pub nat_same : (x y : ℕ) → x ≡ y → (x == y) ≡ true
nat_same x y e = ap (λ n. x == n) (sym e) ∙ sym (unsigned_tied x x) ∙ ap is_eq (tied_itself nat_cmp_total x)

pub nat_is : (x y : ℕ) → (x == y) ≡ true → x ≡ y
nat_is x y e = nat_cmp-IsAntisymmetric x y ((Equal-is (nat_cmp x y)).0 (unsigned_tied x y ∙ e))

-- the hash map that they stand in

-- `==` of two keys
abbrev pub is_key : ℕ → ℕ → Bool
is_key = eqb

-- whether a key is made of these octets
abbrev is_octets : List ℕ → ℕ → Bool
is_octets q key = is_its q (octets_of key)

abbrev number : List ℕ → ℕ
number q = get_or q 0 0 + 256 * (get_or q 1 0 + 256 * (get_or q 2 0 + 256 * get_or q 3 0))

number_octets : (key : ℕ) → number (octets_of key) ≡ key
number_octets key = whole
  where
    whole : key % 256 + 256 * (key / 256 % 256 + 256 * (key / 256 / 256 % 256 + 256 * (key / 256 / 256 / 256))) ≡ key
    whole = omega arith

-- the key that is made of four octets
pub octets_made : (bs : List ℕ) (key : ℕ) → length bs ≡ 4 → get_or bs 0 0 < 256 → get_or bs 1 0 < 256 → get_or bs 2 0 < 256 → get_or bs 3 0 < 256
    → key ≡ from_le_bytes w32 bs → octets_of key ≡ bs
octets_made [] key l a' b' c' d' e = absurd (omega arith)
octets_made (a ∷ []) key l a' b' c' d' e = absurd (omega arith)
octets_made (a ∷ b ∷ []) key l a' b' c' d' e = absurd (omega arith)
octets_made (a ∷ b ∷ c ∷ []) key l a' b' c' d' e = absurd (omega arith)
octets_made (a ∷ b ∷ c ∷ d ∷ f ∷ bs) key l a' b' c' d' e = absurd (omega arith)
octets_made (a ∷ b ∷ c ∷ d ∷ []) key l a' b' c' d' e =
    let is : key ≡ a + b * 256 + c * 65536 + d * 16777216 = omega (arith, e) in
    let first : key % 256 ≡ a = omega arith in
    let second : key / 256 % 256 ≡ b = omega arith in
    let third : key / 256 / 256 % 256 ≡ c = omega arith in
    let fourth : key / 256 / 256 / 256 ≡ d = omega arith in
    λ i. first i ∷ second i ∷ third i ∷ fourth i ∷ []

same_key : (j k : ℕ) → is_its (octets_of j) (octets_of k) ≡ is_key j k
same_key j k = by (is_key j k) refl
  where
    by : (b : Bool) → is_key j k ≡ b → is_its (octets_of j) (octets_of k) ≡ b
    by true e = ap (λ i. is_its (octets_of j) (octets_of i)) (sym (nat_is j k e)) ∙ own_id (octets_of j)
    by false e = ne_octets (octets_of j) (octets_of k) (λ same. let is : true ≡ false =
        sym (nat_same j k (sym (number_octets j) ∙ ap number same ∙ number_octets k)) ∙ e in cc)

-- octets are those of a key, or of none
of_a_key : (q : List ℕ) → ((key : ℕ) × (octets_of key ≡ q)) ⊎ ((key : ℕ) → is_octets q key ≡ false)
of_a_key q = by (cases_octets (octets_of (number q)) q)
  where
    by : (octets_of (number q) ≡ q) ⊎ (octets_of (number q) ≡ q → ⊥) → ((key : ℕ) × (octets_of key ≡ q)) ⊎ ((key : ℕ) → is_octets q key ≡ false)
    by (inl e) = inl (number q, e)
    by (inr differ) = inr (λ key. ne_octets q (octets_of key)
        (λ e. differ (ap (λ p. octets_of (number p)) e ∙ ap octets_of (number_octets key) ∙ sym e)))

abbrev pub items_in : Option (SmallVec Invocation) → Option (List Invocation)
items_in o = option_map (λ (l : SmallVec Invocation). l.items) o

lookup_items : (es : List (ℕ × SmallVec Invocation)) (q : List ℕ) → finite.find octets_cmp q (map items_of es) ≡ items_in (lookup (is_octets q) es)
lookup_items [] q = refl
lookup_items (e ∷ es) q = ap (cond (is_octets q e.0) (Some e.1.items)) (lookup_items es q) ∙ by (is_octets q e.0)
  where
    by : (b : Bool) → cond b (Some e.1.items) (items_in (lookup (is_octets q) es)) ≡ items_in (cond b (Some e.1) (lookup (is_octets q) es))
    by true = refl
    by false = refl

none_by : (es : List (ℕ × SmallVec Invocation)) (q : List ℕ) → ((key : ℕ) → is_octets q key ≡ false) → lookup (is_octets q) es ≡ None
none_by [] q h = refl
none_by (e ∷ es) q h = ap (λ b. cond b (Some e.1) (lookup (is_octets q) es)) (h e.0) ∙ none_by es q h

module _ {S : Type 0} where
  get_lists : (m : hash.HashMap ℕ (SmallVec Invocation) S) (q : List ℕ) → finite.get (lists_of m) q ≡ items_in (hash.get_by (is_octets q) m)
  get_lists m q = finite.get-from_entries octets_total (map items_of m.entries) q ∙ lookup_items m.entries q

  get_key : (m : hash.HashMap ℕ (SmallVec Invocation) S) (key : ℕ) → hash.get_by (is_octets (octets_of key)) m ≡ hash.get is_key m key
  get_key m key = ap (λ (test : ℕ → Bool). hash.get_by test m) (λ i k. same_key key k i)

  -- what is written at a key is written at its octets
  at_octets : (m n : hash.HashMap ℕ (SmallVec Invocation) S) (key : ℕ) (w : Option (SmallVec Invocation))
      → ((k : ℕ) → hash.get is_key n k ≡ cond (is_key key k) w (hash.get is_key m k)) → (q : List ℕ)
      → hash.get_by (is_octets q) n ≡ cond (is_its (octets_of key) q) w (hash.get_by (is_octets q) m)
  at_octets m n key w h q = by (of_a_key q)
    where
      by : ((k : ℕ) × (octets_of k ≡ q)) ⊎ ((k : ℕ) → is_octets q k ≡ false)
          → hash.get_by (is_octets q) n ≡ cond (is_its (octets_of key) q) w (hash.get_by (is_octets q) m)
      by (inl f) = subst (λ p. hash.get_by (is_octets p) n ≡ cond (is_its (octets_of key) p) w (hash.get_by (is_octets p) m)) f.1
          (get_key n f.0 ∙ h f.0 ∙ ap (λ b. cond b w (hash.get is_key m f.0)) (sym (same_key key f.0))
          ∙ ap (cond (is_its (octets_of key) (octets_of f.0)) w) (sym (get_key m f.0)))
      by (inr none) = none_by n.entries q none
          ∙ sym (ap (λ b. cond b w (hash.get_by (is_octets q) m)) (sym ((eq_by_cmp_equiv octets_total).symm q (octets_of key)) ∙ none key)
          ∙ none_by m.entries q none)

  -- a list is written or removed
  pub is_written : (m n : hash.HashMap ℕ (SmallVec Invocation) S) (key : ℕ) (w : Option (SmallVec Invocation)) (vs : List Invocation)
      → ((k : ℕ) → hash.get is_key n k ≡ cond (is_key key k) w (hash.get is_key m k)) → items_in w ≡ stored_list vs
      → lists_of n ≡ put_list (lists_of m) (octets_of key) vs
  is_written m n key w vs h e = is_put (lists_of m) (lists_of n) (octets_of key) vs
      (λ q. get_lists n q ∙ ap items_in (at_octets m n key w h q) ∙ by (is_its (octets_of key) q) q)
    where
      by : (b : Bool) (q : List ℕ) → items_in (cond b w (hash.get_by (is_octets q) m)) ≡ cond b (stored_list vs) (finite.get (lists_of m) q)
      by true q = e
      by false q = sym (get_lists m q)

  -- the result of a look-up
  pub list_got : (key : ℕ) (m : hash.HashMap ℕ (SmallVec Invocation) S) (lists : InvocationLists) (id : List ℕ) (o : Option (SmallVec Invocation))
      → o ≡ hash.get is_key m key → lists_of m ≡ lists → octets_of key ≡ id
      → list_in (items_in o) ≡ invocations_at lists id
  list_got key m lists id o e view own =
      ap (λ r. list_in (items_in r)) (e ∙ sym (get_key m key)) ∙ ap list_in (sym (get_lists m (octets_of key))) ∙ λ i. invocations_at (view i) (own i)

  pub was_removed : (key : ℕ) (m : hash.HashMap ℕ (SmallVec Invocation) S) (lists : InvocationLists) (id : List ℕ) (o : Option (SmallVec Invocation))
      → o ≡ hash.get is_key m key → lists_of m ≡ lists → octets_of key ≡ id
      → IfSome o (λ list. list.items ≡ invocations_at lists id)
  was_removed key m lists id None e view own = tt
  was_removed key m lists id (Some l) e view own = list_got key m lists id (Some l) e view own

  pub was_not_there : (key : ℕ) (m : hash.HashMap ℕ (SmallVec Invocation) S) (lists : InvocationLists) (id : List ℕ) (o : Option (SmallVec Invocation))
      → o ≡ hash.get is_key m key → lists_of m ≡ lists → octets_of key ≡ id
      → IfNone o (invocations_at lists id ≡ [])
  was_not_there key m lists id None e view own = sym (list_got key m lists id None e view own)
  was_not_there key m lists id (Some l) e view own = tt

  -- a list is written in place
  pub through : (m n : hash.HashMap ℕ (SmallVec Invocation) S) (key : ℕ) (l w : SmallVec Invocation) → Some l ≡ hash.get is_key m key
      → hash.WritesThrough is_key (is_key key) m w n
      → (k : ℕ) → hash.get is_key n k ≡ cond (is_key key k) (Some w) (hash.get is_key m k)
  through m n key l w had h = (h.3 (subst IsSome had refl)).0

  pub unwritten : (m n : hash.HashMap ℕ (SmallVec Invocation) S) (key : ℕ) (l : SmallVec Invocation) → Some l ≡ hash.get is_key m key
      → hash.WritesThrough is_key (is_key key) m l n → lists_of n ≡ lists_of m
  unwritten m n key l had h = finite.same_map octets_total octets_exact (lists_of n) (lists_of m)
      (λ q. get_lists n q ∙ ap items_in (at_octets m n key (Some l) (through m n key l l had h) q ∙ by (is_its (octets_of key) q) q refl)
      ∙ sym (get_lists m q))
    where
      by : (b : Bool) (q : List ℕ) → is_its (octets_of key) q ≡ b → cond b (Some l) (hash.get_by (is_octets q) m) ≡ hash.get_by (is_octets q) m
      by true q e = had ∙ sym (get_key m key) ∙ ap (λ p. hash.get_by (is_octets p) m) (same_id (octets_of key) q e)
      by false q e = refl

  -- and removed afterwards
  pub emptied : (m n o : hash.HashMap ℕ (SmallVec Invocation) S) (key : ℕ) (l w : SmallVec Invocation) → Some l ≡ hash.get is_key m key
      → hash.WritesThrough is_key (is_key key) m w n
      → ((k : ℕ) → hash.get is_key o k ≡ cond (is_key key k) None (hash.get is_key n k)) → lists_of o ≡ put_list (lists_of m) (octets_of key) []
  emptied m n o key l w had h gone = is_written m o key None [] (λ k. gone k ∙ ap (cond (is_key key k) None) (through m n key l w had h k)
      ∙ by (is_key key k) k) refl
    where
      by : (b : Bool) (k : ℕ) → cond b None (cond b (Some w) (hash.get is_key m k)) ≡ cond b None (hash.get is_key m k)
      by true k = refl
      by false k = refl

-- a copy

abbrev pub IsCopied : ℕ × SmallVec Invocation → ℕ × SmallVec Invocation → Type 0
IsCopied e f = (f.0 ≡ e.0) × AllZip (λ x y. y ≡ x) e.1.items f.1.items

copied_entries : (es fs : List (ℕ × SmallVec Invocation)) → AllZip IsCopied es fs → map items_of fs ≡ map items_of es
copied_entries [] [] h = refl
copied_entries [] (f ∷ fs) h = absurd h
copied_entries (e ∷ es) [] h = absurd h
copied_entries (e ∷ es) (f ∷ fs) h =
    let key : octets_of f.0 ≡ octets_of e.0 = ap octets_of h.0.0 in
    let items : f.1.items ≡ e.1.items = each_same e.1.items f.1.items h.0.1 in
    let rest : map items_of fs ≡ map items_of es = copied_entries es fs h.1 in
    λ i. (key i, items i) ∷ rest i

pub copied_lists : {S : Type 0} → (m n : hash.HashMap ℕ (SmallVec Invocation) S) → AllZip IsCopied m.entries n.entries → lists_of n ≡ lists_of m
copied_lists m n h = ap (λ es. finite.from_entries es) (copied_entries m.entries n.entries h)

-- removing one invocation

without_none : (id : ℤ) (vs : List Invocation) → NoneHas id vs → vs ≡ without id vs
without_none id [] h = refl
without_none id (v ∷ vs) h = ap (λ us. v ∷ us) (without_none id vs h.1) ∙ sym (ap (λ b. cond b vs (v ∷ without id vs)) h.0)

without_past : (id : ℤ) (front : List Invocation) (own : Invocation) (back : List Invocation) → NoneHas id front → has_id id own ≡ true
    → front ++ back ≡ without id (front ++ own ∷ back)
without_past id [] own back h e = sym (ap (λ b. cond b back (own ∷ without id back)) e)
without_past id (v ∷ front) own back h e = ap (λ us. v ∷ us) (without_past id front own back h.1 e)
    ∙ sym (ap (λ b. cond b (front ++ own ∷ back) (v ∷ without id (front ++ own ∷ back))) h.0)

pub without_at : (id : ℤ) (vs : List Invocation) (place : ℕ) → position (has_id id) vs ≡ Some place → remove vs place ≡ without id vs
without_at id vs place e =
    let p = parts_of id vs place e in
    ap (λ us. remove us place) p.whole ∙ ap (remove (p.front ++ p.own ∷ p.back)) (sym p.at) ∙ remove_at p.front p.own p.back
    ∙ without_past id p.front p.own p.back p.others p.same ∙ ap (without id) (sym p.whole)

-- if it is not there, nothing changes
pub put_without_none : (lists : InvocationLists) (id : List ℕ) (invoke : ℤ) → AreStored lists → NoneHas invoke (invocations_at lists id)
    → lists ≡ put_list lists id (without invoke (invocations_at lists id))
put_without_none lists id invoke s h = put_same lists id s ∙ ap (put_list lists id) (without_none invoke (invocations_at lists id) h)
