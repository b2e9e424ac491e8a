-- Only a clock value changes a clock, and what is for no open dialogue opens none.
use Rattle.std.proofs.Common.{◌≡◌, ℕ, List, Option, Some, None, refl, sym, ap, subst}
use Rattle.machine.specs.Received.{Component}
use Rattle.machine.specs.State.{Dialogue, State, Transaction}
use Rattle.machine.specs.Transactions.{transact, ContinueComes}
use Rattle.machine.specs.Turns.{Turn, OneDue, NoneDue, Expiry, close_at, continue_at, continue_for, for_it, named}
use Rattle.machine.specs.Step.{outcome_in, ticked}

pub continue_still : (from origin id : List ℕ) (cs : List Component) (d : Option Dialogue) (S : State) → ticked (continue_at from origin id cs d) S ≡ S
continue_still from origin id cs None S = refl
continue_still from origin id cs (Some d) S = at (for_it (transact (Some d.transaction) (ContinueComes from origin)))
  where
    at : (t : Option Transaction) → ticked (continue_for from origin id cs d t) S ≡ S
    at None = refl
    at (Some t) = refl

pub close_still : (id : List ℕ) (d : Option Dialogue) (S : State) → ticked (close_at id d) S ≡ S
close_still id None S = refl
close_still id (Some d) S = refl

pub expiry_still : (S : State) (n : ℕ) (turn : Turn) → Expiry S n turn → (T : State) → ticked turn T ≡ T
expiry_still S n turn (OneDue i d j v due least is) T = ap (λ t. ticked t T) is
expiry_still S n turn (NoneDue none is) T = ap (λ t. ticked t T) is

-- If the turn names no open dialogue, none opens.
abbrev pub IsForOpen : Turn → Type 0
IsForOpen turn = named turn ≡ None → (S : State) (n : ℕ) (new : List ℕ) → (outcome_in S n turn new).opens ≡ None

pub continue_for_open : (from origin id : List ℕ) (cs : List Component) (d : Option Dialogue) → IsForOpen (continue_at from origin id cs d)
continue_for_open from origin id cs None = λ none S n new. refl
continue_for_open from origin id cs (Some d) = at (for_it (transact (Some d.transaction) (ContinueComes from origin)))
  where
    at : (t : Option Transaction) → IsForOpen (continue_for from origin id cs d t)
    at None = λ none S n new. refl
    at (Some t) = λ none. absurd cc

pub close_for_open : (id : List ℕ) (d : Option Dialogue) → IsForOpen (close_at id d)
close_for_open id None = λ none S n new. refl
close_for_open id (Some d) = λ none. absurd cc

pub expiry_for_open : (S : State) (n : ℕ) (turn : Turn) → Expiry S n turn → IsForOpen turn
expiry_for_open S n turn (OneDue i d j v due least is) = subst IsForOpen (sym is) (λ none. absurd cc)
expiry_for_open S n turn (NoneDue none is) = subst IsForOpen (sym is) (λ nothing T m new. refl)
