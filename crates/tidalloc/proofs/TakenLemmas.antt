-- Ids that were set back are taken again.
use Rattle.std.proofs.Common.{◌≡◌, ℕ, ◌-◌, ◌<◌, Bool, true, false, cond, ◌||◌, List, [], ◌∷◌, ◌++◌, length, Some, None, refl, sym, ap, ◌∙◌, arith, get_or, ltb}
use Rattle.std.proofs.Math.ListN.{set, length-set, length-append}
use Rattle.std.proofs.Math.Seq.{get_or-append_seam}
use Rattle.std.proofs.lemmas.Bool.{lt-ltb, true≢false}
use Rattle.std.proofs.lemmas.List.{get_or-set_same, get_or-set_other, set-set, set-get_or}
use Rattle.std.specs.List.{list_any}
use Rattle.hlr_types.proofs.OrderLemmas.{eq_octets}
use Rattle.tidalloc.proofs.IdLemmas.{generation_before-is}
use Rattle.tidalloc.proofs.ListingLemmas.{is_id}
use Rattle.tidalloc.proofs.SupplyLemmas.{all_but_last, at_used}
use Rattle.tidalloc.specs.LiveIds.{Supply, id_at, slot_of, generation_of, next_id, next_slot, next_at, next_generation, with_generation, after_taking}
use Rattle.tidalloc.specs.Resumed.{generation_before, untaken, untaken_all}

-- The id's slot is at the id's generation.
pub record IsTaken (shard : ℕ) (s : Supply) (id : List ℕ) : Type 0 where
  pub within : slot_of id < length s.generations
  pub own : id ≡ id_at shard (slot_of id) (generation_of id)
  pub there : get_or s.generations (slot_of id) 0 ≡ generation_of id
  pub begun : 0 < generation_of id
  pub few : generation_of id < 4096

-- ---- one id

module _ (shard : ℕ) (s : Supply) (id : List ℕ) (is : IsTaken shard s id) where
  before : List ℕ
  before = set s.generations (slot_of id) (generation_before (generation_of id))

  top : next_slot (untaken s id) ≡ slot_of id
  top =
      let last : length (s.free ++ slot_of id ∷ []) - 1 ≡ length s.free = omega (arith, length-append s.free (slot_of id ∷ [])) in
      ap (λ i. get_or (s.free ++ slot_of id ∷ []) i (length (set s.generations (slot_of id) (generation_before (generation_of id))))) last
      ∙ get_or-append_seam s.free (slot_of id) [] _

  again : next_at (untaken s id) (slot_of id) ≡ generation_of id
  again =
      ap next_generation (get_or-set_same s.generations (slot_of id) (generation_before (generation_of id)) s.first is.within)
      ∙ (generation_before-is (generation_of id) is.begun is.few).2

  small : slot_of id < 4096
  small = omega arith

  pub next-untaken : next_id shard (untaken s id) ≡ Some id
  next-untaken =
      ap (λ n. cond (ltb n 4096) (Some (id_at shard n (next_at (untaken s id) n))) None) top
      ∙ ap (λ b. cond b (Some (id_at shard (slot_of id) (next_at (untaken s id) (slot_of id)))) None) (lt-ltb (slot_of id) 4096 small)
      ∙ ap (λ g. Some (id_at shard (slot_of id) g)) again
      ∙ ap Some (sym is.own)

  generations_again : with_generation (untaken s id).generations (next_slot (untaken s id)) (next_at (untaken s id) (next_slot (untaken s id))) ≡ s.generations
  generations_again =
      let b = generation_before (generation_of id) in
      let within : slot_of id < length (set s.generations (slot_of id) b) = omega (arith, is.within, length-set s.generations (slot_of id) b) in
      ap (λ n. with_generation (set s.generations (slot_of id) b) n (next_at (untaken s id) n)) top
      ∙ ap (λ g. with_generation (set s.generations (slot_of id) b) (slot_of id) g) again
      ∙ at_used (set s.generations (slot_of id) b) (slot_of id) (generation_of id) within
      ∙ set-set s.generations (slot_of id) b (generation_of id)
      ∙ ap (set s.generations (slot_of id)) (sym is.there)
      ∙ set-get_or s.generations (slot_of id) 0

  pub after-untaken : after_taking (untaken s id) ≡ s
  after-untaken = λ i. record { first = s.first; generations = generations_again i; free = all_but_last s.free (slot_of id) i }

-- ---- several ids

-- another id stays taken
kept : (shard : ℕ) (s : Supply) (id other : List ℕ) → (slot_of id ≡ slot_of other → ⊥) → IsTaken shard s id → IsTaken shard (untaken s other) id
kept shard s id other apart is =
    let b = generation_before (generation_of other) in record {
      within = omega (arith, is.within, length-set s.generations (slot_of other) b);
      own = is.own;
      there = get_or-set_other s.generations (slot_of other) (slot_of id) b 0 apart ∙ is.there;
      begun = is.begun;
      few = is.few;
    }

abbrev pub AreApart : List ℕ → List (List ℕ) → Type 0
AreApart id [] = Unit {0}
AreApart id (x ∷ xs) = (slot_of id ≡ slot_of x → ⊥) × AreApart id xs

kept_all : (shard : ℕ) (s : Supply) (id : List ℕ) (more : List (List ℕ)) → AreApart id more → IsTaken shard s id → IsTaken shard (untaken_all s more) id
kept_all shard s id [] apart is = is
kept_all shard s id (x ∷ xs) apart is = kept shard (untaken_all s xs) id x apart.0 (kept_all shard s id xs apart.1 is)

pub next-untaken_all : (shard : ℕ) (s : Supply) (id : List ℕ) (more : List (List ℕ)) → AreApart id more → IsTaken shard s id
    → next_id shard (untaken_all s (id ∷ more)) ≡ Some id
next-untaken_all shard s id more apart is = next-untaken shard (untaken_all s more) id (kept_all shard s id more apart is)

pub after-untaken_all : (shard : ℕ) (s : Supply) (id : List ℕ) (more : List (List ℕ)) → AreApart id more → IsTaken shard s id
    → after_taking (untaken_all s (id ∷ more)) ≡ untaken_all s more
after-untaken_all shard s id more apart is = after-untaken shard (untaken_all s more) id (kept_all shard s id more apart is)

-- ids that are not this one, and have slots of their own
pub apart-distinct : (id : List ℕ) (more : List (List ℕ)) → list_any (is_id id) more ≡ false
    → ((q : List ℕ) → list_any (is_id q) more ≡ true → slot_of id ≡ slot_of q → id ≡ q) → AreApart id more
apart-distinct id [] none own = tt
apart-distinct id (x ∷ xs) none own =
    let here : is_id x x ≡ true = eq_octets x x refl in (
      λ same. absurd (true≢false (sym (any_first (is_id id x) (eq_octets id x (own x (ap (λ b. b || list_any (is_id x) xs) here) same))) ∙ none)),
      apart-distinct id xs (later (is_id id x) none) (λ q there same. own q (or_later (is_id q x) there) same),
    )
  where
    any_first : (b : Bool) → b ≡ true → (b || list_any (is_id id) xs) ≡ true
    any_first true e = refl
    any_first false e = absurd (true≢false (sym e))

    later : (b : Bool) → (b || list_any (is_id id) xs) ≡ false → list_any (is_id id) xs ≡ false
    later true e = absurd (true≢false e)
    later false e = e

    or_later : (b : Bool) {c : Bool} → c ≡ true → (b || c) ≡ true
    or_later true e = refl
    or_later false e = e
