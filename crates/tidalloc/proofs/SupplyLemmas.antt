-- What decides which id is next, by the table of slots.
use Rattle.std.proofs.Common.{◌≡◌, ℕ, zero, suc, ◌-◌, ◌<◌, Bool, true, false, cond, List, [], ◌∷◌, ◌++◌, length, map, take, Option, Some, None, refl, sym, ap, ◌∙◌, arith, get_or, ltb}
use Rattle.std.proofs.Math.ListN.{set, length-append}
use Rattle.std.proofs.lemmas.Bool.{lt-ltb, ltb-true}
use Rattle.std.specs.List.{slice_get}
use Rattle.tidalloc.specs.declared.slot.Slot.{Slot}
use Rattle.tidalloc.specs.LiveIds.{Supply, id_at, slot_of, next_generation, next_id, next_at, next_slot, with_generation, after_taking, after_freeing}
use Rattle.tidalloc.specs.Slots.{generation_in, supply_of}

abbrev pub generations : List Slot → List ℕ
generations slots = map (λ (s : Slot). s.generation) slots

pub counted : (slots : List Slot) → length (generations slots) ≡ length slots
counted [] = refl
counted (s ∷ slots) = ap suc (counted slots)

pub generation_at : (first : ℕ) (slots : List Slot) (k : ℕ) → get_or (generations slots) k first ≡ generation_in first (slice_get slots k)
generation_at first [] k = refl
generation_at first (s ∷ slots) zero = refl
generation_at first (s ∷ slots) (suc k) = generation_at first slots k

pub generations-set : (slots : List Slot) (k : ℕ) (s : Slot) → generations (set slots k s) ≡ set (generations slots) k s.generation
generations-set [] k s = refl
generations-set (t ∷ slots) zero s = refl
generations-set (t ∷ slots) (suc k) s = ap (λ gs. t.generation ∷ gs) (generations-set slots k s)

pub generations-push : (slots : List Slot) (s : Slot) → generations (slots ++ s ∷ []) ≡ generations slots ++ s.generation ∷ []
generations-push [] s = refl
generations-push (t ∷ slots) s = ap (λ gs. t.generation ∷ gs) (generations-push slots s)

-- The slot used next, and its id.
abbrev pub slot_next : List Slot → List ℕ → ℕ
slot_next slots free = get_or free (length free - 1) (length slots)

abbrev pub id_next : (shard first : ℕ) → List Slot → ℕ → Option (List ℕ)
id_next shard first slots k = cond (ltb k 4096) (Some (id_at shard k (next_generation (generation_in first (slice_get slots k))))) None

next_slot_is : (first : ℕ) (slots : List Slot) (free : List ℕ) → next_slot (supply_of first slots free) ≡ slot_next slots free
next_slot_is first slots free = ap (λ n. get_or free (length free - 1) n) (counted slots)

pub next_is : (shard first : ℕ) (slots : List Slot) (free : List ℕ)
    → next_id shard (supply_of first slots free) ≡ id_next shard first slots (slot_next slots free)
next_is shard first slots free =
    ap (λ n. cond (ltb n 4096) (Some (id_at shard n (next_at (supply_of first slots free) n))) None) (next_slot_is first slots free)
    ∙ ap (λ g. cond (ltb (slot_next slots free) 4096) (Some (id_at shard (slot_next slots free) (next_generation g))) None)
    (generation_at first slots (slot_next slots free))

-- ---- an id is taken

pub all_but_last : (free : List ℕ) (k : ℕ) → take (length (free ++ k ∷ []) - 1) (free ++ k ∷ []) ≡ free
all_but_last free k = front free (length (free ++ k ∷ []) - 1) (omega (arith, length-append free (k ∷ [])))
  where
    front : (xs : List ℕ) (n : ℕ) → n ≡ length xs → take n (xs ++ k ∷ []) ≡ xs
    front [] zero e = refl
    front [] (suc n) e = absurd (omega arith)
    front (x ∷ xs) zero e = absurd (omega arith)
    front (x ∷ xs) (suc n) e = ap (λ ys. x ∷ ys) (front xs n (omega arith))

pub at_used : (gs : List ℕ) (k g : ℕ) → k < length gs → with_generation gs k g ≡ set gs k g
at_used gs k g h = ap (λ b. cond b (set gs k g) (gs ++ g ∷ [])) (lt-ltb k (length gs) h)

at_end : (gs : List ℕ) (k g : ℕ) → k ≡ length gs → with_generation gs k g ≡ gs ++ g ∷ []
at_end gs k g e = past (ltb k (length gs)) refl
  where
    past : (b : Bool) → ltb k (length gs) ≡ b → cond b (set gs k g) (gs ++ g ∷ []) ≡ gs ++ g ∷ []
    past true t = let less = ltb-true k (length gs) t in absurd (omega arith)
    past false t = refl

-- The slot on top of the free ones is used again.
pub after_using_again : (first : ℕ) (slots : List Slot) (free : List ℕ) (k : ℕ) (s : Slot) → slot_next slots (free ++ k ∷ []) ≡ k → slice_get slots k ≡ Some s
    → k < length slots
    → supply_of first (set slots k (record { generation = next_generation s.generation; is_live = true })) free
    ≡ after_taking (supply_of first slots (free ++ k ∷ []))
after_using_again first slots free k s top stands within =
    let same : next_slot (supply_of first slots (free ++ k ∷ [])) ≡ k = next_slot_is first slots (free ++ k ∷ []) ∙ top in
    let next : next_at (supply_of first slots (free ++ k ∷ [])) k ≡ next_generation s.generation =
    ap next_generation (generation_at first slots k ∙ ap (generation_in first) stands) in
    supplies _ _ _ _ (
    generations-set slots k (record { generation = next_generation s.generation; is_live = true })
    ∙ sym (
    ap (λ n. with_generation (generations slots) n (next_at (supply_of first slots (free ++ k ∷ [])) n)) same
    ∙ ap (λ g. with_generation (generations slots) k g) next
    ∙ at_used (generations slots) k (next_generation s.generation) (omega (arith, counted slots))))
    (sym (all_but_last free k))
  where
    supplies : (gs hs xs ys : List ℕ) → gs ≡ hs → xs ≡ ys
        → ◌≡◌ {A = Supply} (record { first = first; generations = gs; free = xs }) (record { first = first; generations = hs; free = ys })
    supplies gs hs xs ys e f = cc

-- A slot is used for the first time.
pub after_using_first : (first : ℕ) (slots : List Slot)
    → supply_of first (slots ++ record { generation = next_generation first; is_live = true } ∷ []) [] ≡ after_taking (supply_of first slots [])
after_using_first first slots =
    let next : next_at (supply_of first slots []) (length (generations slots)) ≡ next_generation first =
    ap next_generation (past (generations slots)) in
    ap (λ gs. with_these gs) (
    generations-push slots (record { generation = next_generation first; is_live = true })
    ∙ sym (
    ap (λ g. with_generation (generations slots) (length (generations slots)) g) next
    ∙ at_end (generations slots) (length (generations slots)) (next_generation first) refl))
  where
    with_these : List ℕ → Supply
    with_these gs = record { first = first; generations = gs; free = [] }

    past : (gs : List ℕ) → get_or gs (length gs) first ≡ first
    past [] = refl
    past (g ∷ gs) = past gs

-- ---- an id is freed

pub after_giving_back : (first : ℕ) (slots : List Slot) (free : List ℕ) (id : List ℕ) (s : Slot) → slice_get slots (slot_of id) ≡ Some s
    → supply_of first (set slots (slot_of id) (record { generation = s.generation; is_live = false })) (free ++ slot_of id ∷ [])
    ≡ after_freeing (supply_of first slots free) id
after_giving_back first slots free id s stands =
    ap (λ gs. of_generations gs) (generations-set slots (slot_of id) (record { generation = s.generation; is_live = false }) ∙ unchanged slots (slot_of id) stands)
  where
    of_generations : List ℕ → Supply
    of_generations gs = record { first = first; generations = gs; free = free ++ slot_of id ∷ [] }

    unchanged : (xs : List Slot) (k : ℕ) → slice_get xs k ≡ Some s → set (generations xs) k s.generation ≡ generations xs
    unchanged [] k e = refl
    unchanged (x ∷ xs) zero e = let same : x ≡ s = cc in ap (λ (y : Slot). y.generation ∷ generations xs) (sym same)
    unchanged (x ∷ xs) (suc k) e = ap (λ gs. x.generation ∷ gs) (unchanged xs k e)

-- ---- the same generations

abbrev pub no_slot : Slot
no_slot = record { generation = 0; is_live = false }

generation_there : (slots : List Slot) (k : ℕ) → get_or (generations slots) k 0 ≡ (get_or slots k no_slot).generation
generation_there [] k = refl
generation_there (s ∷ slots) zero = refl
generation_there (s ∷ slots) (suc k) = generation_there slots k

pub differ_there : (left right : List Slot) (k : ℕ) → ((get_or left k no_slot).generation ≡ (get_or right k no_slot).generation → ⊥)
    → generations left ≡ generations right → ⊥
differ_there left right k apart same =
    apart (sym (generation_there left k) ∙ ap (λ gs. get_or gs k 0) same ∙ generation_there right k)

pub same_everywhere : (left right : List Slot) → length left ≡ length right
    → ((k : ℕ) → k < length left → (get_or left k no_slot).generation ≡ (get_or right k no_slot).generation) → generations left ≡ generations right
same_everywhere [] [] long each = refl
same_everywhere [] (t ∷ right) long each = absurd (omega arith)
same_everywhere (s ∷ left) [] long each = absurd (omega arith)
same_everywhere (s ∷ left) (t ∷ right) long each =
    let here : s.generation ≡ t.generation = each 0 (omega arith) in
    let rest = same_everywhere left right (omega arith) (λ k h. each (suc k) (omega arith)) in
    ap (λ g. g ∷ generations left) here ∙ ap (λ gs. t.generation ∷ gs) rest
