-- The union of parts is one whole state.
use Rattle.std.proofs.Common.{◌≡◌, ◌<◌, ◌≤◌, ℕ, sym, ◌∙◌}
use Rattle.machine.specs.Sound.{Sound}
use Rattle.machine.specs.State.{State}
use Rattle.machine.specs.Parts.{part, union}
use Rattle.machine_laws.proofs.Parts.{agree_sym}
use Rattle.machine_laws.proofs.Merging.{goes_union, union_goes, part_alike, part_agrees, part_sound}

pub union_of_parts : (S : State) → Sound S → ((n : ℕ) → 16 ≤ n → S.clocks n ≡ 0) → union (part S) ≡ S
union_of_parts S sound late = sym (goes_union S (part S) (record {
  agree = λ n h. agree_sym n S (part S n) (part_agrees n S);
  sound = sound;
  sounds = λ n h. part_sound n S sound;
  clocks = late;
}))

pub parts_of_union : (states : ℕ → State) (n : ℕ) → ((m : ℕ) → m < 16 → Sound (states m)) → ((m : ℕ) → m < 16 → (states m).directory ≡ (states 0).directory)
    → ((m : ℕ) → m < 16 → (states m).hlr ≡ (states 0).hlr) → n < 16 → states n ≡ part (states n) n → part (union states) n ≡ states n
parts_of_union states n sounds directories hlrs small is_part = part_alike n (states n) (union states)
    ((union_goes states sounds directories hlrs).agree n small) ∙ sym is_part
