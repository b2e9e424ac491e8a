-- How a shard begins, and how its journal grows.
use Rattle.std.proofs.Common.{◌≡◌, ◌≤◌, ◌<◌, ℕ, List, [], ◌∷◌, ◌++◌, true, false, length, refl, subst, Option, Some, None, arith}
use Rattle.machine.specs.Step.{Answer, Step}
use Rattle.machine.specs.State.{Dialogue, State, Subscriber}
use Rattle.machine.specs.Legal.{Entry, Legal}
use Rattle.machine.specs.Events.{Event}
use Rattle.machine.specs.Keys.{Every, shard_of_id}
use Rattle.machine.specs.Parts.{Leaves, part}
use Rattle.machine.specs.Sound.{MarkNames, Sound}
use Rattle.machine.specs.Routing.{route}
use Rattle.machine_laws.proofs.Keys.{none_some}
use Rattle.machine_laws.proofs.Steps.{step_sound}
use Rattle.machine_laws.proofs.Transfer.{step_leaves}
use Rattle.machine_laws.proofs.Merging.{part_leaves}
use Rattle.machine_laws.proofs.Chains.{legal_append}

no_mark : (x : List ℕ) (D : List ℕ → Option Dialogue) (c : Option (List ℕ)) → c ≡ None → MarkNames x D c
no_mark x D None e = tt
no_mark x D (Some j) e = absurd (none_some j _ e refl)

-- no dialogue, no mark, and nothing else amiss in a record
pub begins_sound : (S : State) → ((i : List ℕ) → S.dialogues i ≡ None)
    → ((x : List ℕ) (s : Subscriber) → S.records x ≡ Some s → (s.current ≡ None) × (s.register ≡ None → s.purged ≡ false)
    × (s.withdrawn ≡ true → s.register ≡ None)) → Sound S
begins_sound S none records = record {
  dialogues = λ i d e. absurd (none_some d _ (none i) e);
  records = λ x s e. record {
    mark = no_mark x S.dialogues s.current (records x s e).0;
    purged = (records x s e).1;
    withdrawn = λ w.
        ((records x s e).2 w, (records x s e).0);
  };
  few = λ n is h. few_at n is h.open_ones;
}
  where
    few_at : (n : ℕ) (is : List (List ℕ)) → Every (λ i. (shard_of_id i ≡ n) × (S.dialogues i ≡ None → ⊥)) is → length is ≤ 4096
    few_at n [] h = omega arith
    few_at n (i ∷ is) h = absurd (h.0.1 (none i))

-- a step appends its entry
pub legal_push : (n : ℕ) (base S T : State) (js : List Entry) (e : Event) (a : Answer) → Legal n base js S → route S.directory e ≡ n → Step S e T a
    → Legal n base (js ++ record { event = e; answer = a } ∷ []) T
legal_push n base S T js e a legal r step =
    let leaves : Leaves S T n = subst (λ m. Leaves S T m) r (step_leaves S e T a legal.after_sound step) in
    legal_append n base S T js (record { event = e; answer = a } ∷ []) legal (record {
      is_shard = legal.is_shard;
      run = (T, step, refl);
      routed = (r, tt);
      base_sound = legal.after_sound;
      after_sound = step_sound S e T a legal.after_sound step;
      base_part = legal.after_part;
      after_part = part_leaves n S T legal.after_part leaves;
    })

pub legal_begins : (n : ℕ) (S : State) → n < 16 → Sound S → S ≡ part S n → Legal n S [] S
legal_begins n S small sound p = record { is_shard = small; run = refl; routed = tt; base_sound = sound; after_sound = sound; base_part = p; after_part = p }
