-- Ids, slots and generations.
use Rattle.std.proofs.Common.{◌≡◌, ℕ, ◌+◌, ◌-◌, ◌*◌, ◌/◌, ◌%◌, ◌<◌, ◌==◌, Bool, true, false, cond, refl, sym, ap, ◌∙◌, arith}
use Rattle.std.proofs.lemmas.Bool.{eqb-true, eq-eqb}
use Rattle.hlr_types.specs.Ids.{id_of, number_of, IsIdOf}
use Rattle.tidalloc.specs.LiveIds.{id_at, slot_of, generation_of, next_generation}
use Rattle.tidalloc.specs.Resumed.{generation_before}

number_of-id_of : (shard number : ℕ) → number_of (id_of shard number) ≡ number
number_of-id_of shard number = omega arith

pub slot_of-id_at : (shard n g : ℕ) → n < 4096 → slot_of (id_at shard n g) ≡ n
slot_of-id_at shard n g h = ap (λ m. m % 4096) (number_of-id_of shard (g * 4096 + n)) ∙ omega arith

pub generation_of-id_at : (shard n g : ℕ) → n < 4096 → generation_of (id_at shard n g) ≡ g
generation_of-id_at shard n g h = ap (λ m. m / 4096) (number_of-id_of shard (g * 4096 + n)) ∙ omega arith

-- two generations of a slot have different ids
pub id_at-generation : (shard n g h : ℕ) → id_at shard n g ≡ id_at shard n h → g ≡ h
id_at-generation shard n g h e =
    let same : g * 4096 + n ≡ h * 4096 + n = sym (number_of-id_of shard (g * 4096 + n)) ∙ ap number_of e ∙ number_of-id_of shard (h * 4096 + n) in
    omega arith

pub IsIdOf-id_at : (shard n g : ℕ) → shard < 16 → n < 4096 → 0 < g → g < 4096 → IsIdOf shard (id_at shard n g)
IsIdOf-id_at shard n g in_range small some few = record {
  four = refl;
  octets = (omega arith, (omega arith, (omega arith, (omega arith, tt))));
  shard_first = refl;
  not_zero = λ z. let none = number_of-id_of shard (g * 4096 + n) in omega (arith, none, z.0, z.1, z.2);
}

-- the next generation differs, and is 1 to 4,095
pub next_generation-is : (g : ℕ) → g < 4096 → (0 < next_generation g) × (next_generation g < 4096) × (next_generation g ≡ g → ⊥)
next_generation-is g small = facts (g == 4095) refl
  where
    facts : (b : Bool) → (g == 4095) ≡ b → (0 < cond b 1 (g + 1)) × (cond b 1 (g + 1) < 4096) × (cond b 1 (g + 1) ≡ g → ⊥)
    facts true e = let same : g ≡ 4095 = eqb-true g 4095 e in (omega arith, omega arith, λ s. omega arith)
    facts false e = let differ : g ≡ 4095 → ⊥ = λ s. cc (eq-eqb g 4095 s) in (omega arith, omega arith, λ s. omega arith)

-- the generation before is 1 to 4,095, and this one is next after it
pub generation_before-is : (g : ℕ) → 0 < g → g < 4096
    → (0 < generation_before g) × (generation_before g < 4096) × (next_generation (generation_before g) ≡ g)
generation_before-is g some small = facts (g == 1) refl
  where
    later : (b : Bool) → ((g - 1) == 4095) ≡ b → cond b 1 (g - 1 + 1) ≡ g
    later true e = let same : g - 1 ≡ 4095 = eqb-true (g - 1) 4095 e in absurd (omega arith)
    later false e = omega arith

    facts : (b : Bool) → (g == 1) ≡ b → (0 < cond b 4095 (g - 1)) × (cond b 4095 (g - 1) < 4096) × (next_generation (cond b 4095 (g - 1)) ≡ g)
    facts true e = let same : g ≡ 1 = eqb-true g 1 e in (omega arith, omega arith, sym same)
    facts false e = let other : g ≡ 1 → ⊥ = λ s. cc (eq-eqb g 1 s) in (omega arith, omega arith, later ((g - 1) == 4095) refl)
