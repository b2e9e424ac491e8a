-- Chains of epochs.
use Rattle.std.proofs.Common.{◌≡◌, ℕ, List, [], ◌∷◌, ◌++◌, refl, sym, ap, ◌∙◌, subst}
use Rattle.machine.specs.Chains.{Chain, Epoch, first_base, joined}
use Rattle.machine.specs.Legal.{Entry, Legal, answers_of, events_of}
use Rattle.machine.specs.Keys.{Every}
use Rattle.machine.specs.Isolation.{NoneTurnedAway, SameOf, only_of, own}
use Rattle.machine.specs.Run.{Run}
use Rattle.machine.specs.Sound.{Sound}
use Rattle.machine.specs.State.{State}
use Rattle.machine.specs.Holders.{holders, serving}
use Rattle.machine.specs.Routing.{route}
use Rattle.machine_laws.proofs.Steps.{step_sound}
use Rattle.machine_laws.proofs.Transfer.{step_leaves}
use Rattle.machine_laws.proofs.Holding.{holders_run}
use Rattle.machine_laws.proofs.OwnJournals.{isolation}

run_append : (js ks : List Entry) (S T U : State) → Run S (events_of js) T (answers_of js) → Run T (events_of ks) U (answers_of ks)
    → Run S (events_of (js ++ ks)) U (answers_of (js ++ ks))
run_append [] ks S T U run more = subst (λ V. Run V (events_of ks) U (answers_of ks)) run more
run_append (j ∷ js) ks S T U (M, step, run) more = (M, step, run_append js ks M T U run more)

every_append : (P : Entry → Type 0) (js ks : List Entry) → Every P js → Every P ks → Every P (js ++ ks)
every_append P [] ks h g = g
every_append P (j ∷ js) ks h g = (h.0, every_append P js ks h.1 g)

pub run_directory : (js : List Entry) (S T : State) → Sound S → Run S (events_of js) T (answers_of js) → T.directory ≡ S.directory
run_directory [] S T sound run = ap (λ (U : State). U.directory) run
run_directory (j ∷ js) S T sound (M, step, run) = run_directory js M T (step_sound S j.event M j.answer sound step) run
    ∙ (step_leaves S j.event M j.answer sound step).directory

pub legal_append : (n : ℕ) (S T U : State) (js ks : List Entry) → Legal n S js T → Legal n T ks U → Legal n S (js ++ ks) U
legal_append n S T U js ks h g = record {
  is_shard = h.is_shard;
  run = run_append js ks S T U h.run g.run;
  routed = every_append _ js ks h.routed (subst (λ d. Every (λ k. route d k.event ≡ n) ks) (run_directory js S T h.base_sound h.run) g.routed);
  base_sound = h.base_sound;
  after_sound = g.after_sound;
  base_part = h.base_part;
  after_part = g.after_part;
}

first_after : (es : List Epoch) (base state : State) (entries : List Entry)
    → first_base (es ++ record { base = base; entries = entries } ∷ []) state ≡ first_base es base
first_after [] base state entries = refl
first_after (e ∷ es) base state entries = refl

pub chain_cut : (n : ℕ) (es : List Epoch) (base state : State) (entries : List Entry) → Chain n es base → Legal n base entries state
    → Chain n (es ++ record { base = base; entries = entries } ∷ []) state
chain_cut n [] base state entries c h = (h, tt)
chain_cut n (e ∷ es) base state entries c h = (
  subst (λ U. Legal n e.base e.entries U)
      (sym (first_after es base state entries)) c.0,
  chain_cut n es base state entries c.1 h,
)

pub chain_joined : (n : ℕ) (es : List Epoch) (base state : State) (entries : List Entry) → Chain n es base → Legal n base entries state
    → Legal n (first_base es base) (joined es ++ entries) state
chain_joined n [] base state entries c h = h
chain_joined n (e ∷ es) base state entries c h =
    let P : List Entry → Type 0 = λ js. Legal n e.base js state in
    subst P (sym (Rattle.std.proofs.Common.append_assoc e.entries (joined es) entries))
    (legal_append n e.base (first_base es base) state e.entries (joined es ++ entries) c.0 (chain_joined n es base state entries c.1 h))

-- the joined journal has its holders and its isolation
pub chain_holders : (n : ℕ) (es : List Epoch) (base state : State) (entries : List Entry) (x : List ℕ) → Chain n es base → Legal n base entries state
    → holders (first_base es base) (joined es ++ entries) x ≡ serving (state.records x)
chain_holders n es base state entries x c h =
    let legal : Legal n (first_base es base) (joined es ++ entries) state = chain_joined n es base state entries c h in
    holders_run (first_base es base) state (joined es ++ entries) x legal.base_sound legal.run

pub chain_isolation : (n : ℕ) (es : List Epoch) (base state : State) (entries : List Entry) (x : List ℕ) → Chain n es base → Legal n base entries state
    → NoneTurnedAway (joined es ++ entries) x
    → (T : State) × Legal n (own (first_base es base) x) (only_of (joined es ++ entries) x) T × SameOf x state T
chain_isolation n es base state entries x c h none = isolation n (first_base es base) state (joined es ++ entries) x
    (chain_joined n es base state entries c h) none
