-- The state with which the register begins.
use Rattle.std.specs.Prelude.{◌≡◌, ℕ, List, true, false, Option, Some, None}
use Rattle.machine.specs.State.{Subscriber, State}

-- the records as they were loaded, no dialogue, and each clock at 0
unfoldable pub opening : (records : List ℕ → Option Subscriber) → (directory : List ℕ → Option (List ℕ))
    → (hlr : List ℕ) → State
opening records directory hlr = record {
  records = records;
  dialogues = λ id. None;
  clocks = λ shard. 0;
  directory = directory;
  hlr = hlr;
}

-- A record that may be loaded: no update is in progress, it is not purged without a register, and if withdrawn it has none.
pub record IsLoaded (s : Subscriber) : Type 0 where
  pub unmarked : s.current ≡ None
  pub purged : s.register ≡ None → s.purged ≡ false
  pub withdrawn : s.withdrawn ≡ true → s.register ≡ None

-- each record may be loaded
abbrev pub AreLoaded : (List ℕ → Option Subscriber) → Type 0
AreLoaded records = (x : List ℕ) (s : Subscriber) → records x ≡ Some s → IsLoaded s
