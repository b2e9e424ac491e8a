-- The lots of a batch.
use Rattle.std.specs.Prelude.{ℕ, List, take, drop, ◌/◌, max, min}
use Rattle.frames.specs.Account.{Job}
use Rattle.workers.specs.declared.lot.Lot.{Lot}

-- How many jobs a lot has: at most 64, and so few that each worker can have sixteen lots.
abbrev pub lot_size : (jobs workers : ℕ) → ℕ
lot_size jobs workers = max 1 (min 64 (jobs / workers / 16))

-- which jobs, of those of the batch
abbrev pub jobs_at : List Job → Lot → List Job
jobs_at jobs lot = take lot.count (drop lot.from jobs)
