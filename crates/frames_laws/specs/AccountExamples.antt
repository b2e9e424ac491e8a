-- Worked examples of accounts: two jobs of shard 0, two entries, and what receipts make of them.
use Rattle.std.specs.Prelude.{ℕ, List, [], ◌∷◌, Some, None}
use Rattle.frames.specs.Octets.{RawClock, RawOut, RawEntry}
use Rattle.frames.specs.Account.{Job, Receipt, Account, Reconciles, IsLeastFault, Unaccounts}
use Rattle.frames_laws.specs.Written.{hex, digits}

-- a job that sets the clock of shard 0
abbrev pub clock_job : (number now : ℕ) → Job
clock_job number now = record { number = number; event = RawClock 0 now }

-- an entry of it, which sends nothing
abbrev pub clock_entry : (now : ℕ) → RawEntry
clock_entry now = record { event = RawClock 0 now; id = None; subject = None; outs = [] }

-- a receipt that names a place of shard 0
abbrev pub receipt_at : (job position : ℕ) → Receipt
receipt_at job position = record { job = job; place = Some (record { shard = 0; position = position; outs = [] }) }

-- and one that says that octets were sent there
abbrev pub sent_abort : RawOut
sent_abort = record { to = digits "447700900011"; octets = hex "67 06 49 04 00 00 00 0B" }

abbrev pub receipt_of_abort : (job position : ℕ) → Receipt
receipt_of_abort job position = record { job = job; place = Some (record { shard = 0; position = position; outs = sent_abort ∷ [] }) }

abbrev pub jobs : List Job
jobs = clock_job 1 5 ∷ clock_job 2 7 ∷ []

abbrev pub journals : List (List RawEntry)
journals = (clock_entry 5 ∷ clock_entry 7 ∷ []) ∷ []

-- What accounts and what does not, and the least number that does not.
pub record Accounts : Type 0 where
  pub all : Reconciles journals jobs (receipt_at 2 1 ∷ receipt_at 1 0 ∷ [])
  pub another_event : Account journals jobs (receipt_at 1 1 ∷ receipt_at 2 0 ∷ []) 1 → ⊥
  pub other_octets : Account journals jobs (receipt_of_abort 1 0 ∷ receipt_at 2 1 ∷ []) 1 → ⊥
  pub place_named_twice : Account journals jobs (receipt_at 1 0 ∷ receipt_at 2 0 ∷ []) 1 → ⊥
  pub no_entry_there : Account journals jobs (receipt_at 1 2 ∷ []) 1 → ⊥
  pub two_receipts : Account journals jobs (receipt_at 1 0 ∷ receipt_at 1 0 ∷ []) 1 → ⊥
  pub two_jobs : Account journals (clock_job 1 5 ∷ clock_job 1 5 ∷ []) (receipt_at 1 0 ∷ []) 1 → ⊥
  pub refused : Account journals jobs (record { job = 1; place = None } ∷ receipt_at 2 1 ∷ []) 1 → ⊥
  pub no_receipts : IsLeastFault journals jobs [] 1
  pub no_receipts_not : IsLeastFault journals jobs [] 2 → ⊥
  pub entry_left_over : Reconciles journals (clock_job 1 5 ∷ []) (receipt_at 1 0 ∷ []) → ⊥
  pub number_0 : Unaccounts journals (clock_job 0 5 ∷ []) [] 0 → ⊥
