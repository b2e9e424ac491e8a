-- What one batch does: the jobs that were sent, and the receipts for them.
use Rattle.std.specs.Prelude.{◌≡◌, ℕ, ◌+◌, Bool, true, false, List, [], ◌∷◌, ◌++◌, map, flat_map, replicate}
use Rattle.frames.specs.Account.{Job}
use Rattle.workers.specs.declared.lot.Lot.{Lot}
use Rattle.workers.specs.declared.rule.Work.{Work}
use Rattle.workers.specs.declared.rule.Work.TheVariants.{Do, Stop}
use Rattle.workers.specs.declared.rule.Hand.{Hand}
use Rattle.workers.specs.Hands.{hand}
use Rattle.workers.specs.Lots.{jobs_at}

-- the numbers of the jobs of the batch that the lots name, in order
abbrev pub numbers_of : List Job → List Work → List ℕ
numbers_of jobs [] = []
numbers_of jobs (Do lot ∷ ws) = map (λ j. j.number) (jobs_at jobs lot) ++ numbers_of jobs ws
numbers_of jobs (Stop ∷ ws) = numbers_of jobs ws

abbrev pub stops_in : List Work → ℕ
stops_in [] = 0
stops_in (Do _ ∷ ws) = stops_in ws
stops_in (Stop ∷ ws) = 1 + stops_in ws

-- the jobs of the lots, in order
abbrev pub jobs_in : List Job → List Lot → List Job
jobs_in jobs lots = flat_map (jobs_at jobs) lots

-- the lots, and then n times `Stop`
abbrev pub batch_of : List Lot → ℕ → List Work
batch_of lots stops = map Do lots ++ replicate stops Stop

abbrev pub StartsWith : List ℕ → List ℕ → Type 0
StartsWith xs first = (rest : List ℕ) × (xs ≡ first ++ rest)

-- the receipts are for the jobs that were taken, in order; if memory ran out, for the first of them
abbrev pub AreFor : List Job → List ℕ → List Work → Bool → Type 0
AreFor jobs receipts taken refused = StartsWith (numbers_of jobs taken) receipts × (refused ≡ false → receipts ≡ numbers_of jobs taken)

-- The view of a worker's pass that has taken `stops` times `Stop`, and the receipts for the jobs of the batch that it took
pub record HasTaken (jobs : List Job) (stops : ℕ) (v : Hand) (receipts : List ℕ) (refused : Bool) : Type 0 where
  pub own : v ≡ hand false 1 [] v.taken
  pub stopped : stops_in v.taken ≡ stops
  pub answered : AreFor jobs receipts v.taken refused

-- The view of the sender's pass: it sent the jobs in lots and one `Stop` for each worker, and has joined the passes of `joined` of
-- them, with these receipts
pub record HasGathered (shares joined : ℕ) (jobs : List Job) (workers : ℕ) (receipts : List ℕ) (v : Hand) : Type 0 where
  pub lots : List Lot
  pub all : jobs_in jobs lots ≡ jobs
  pub sent : v ≡ hand true shares (batch_of lots workers) v.taken
  pub stopped : stops_in v.taken ≡ joined
  pub answered : numbers_of jobs v.taken ≡ receipts
