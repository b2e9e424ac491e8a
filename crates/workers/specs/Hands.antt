-- The rule of a batch's channel: what it holds, and what each pass sent and took.
use Rattle.std.specs.Prelude.{◌≡◌, ℕ, Bool, true, List, [], ◌∷◌, ◌++◌, sum_by}
use mathlib.Core.Option.{some}
use lib.ListN.{get_elem?}
use Rattle.workers.specs.declared.rule.Work.{Work}
use Rattle.workers.specs.declared.rule.Work.TheVariants.{Do, Stop}
use Rattle.workers.specs.declared.rule.Hand.{Hand}

abbrev pub hand : Bool → ℕ → List Work → List Work → Hand
hand sends shares sent taken = record { sends = sends; shares = shares; sent = sent; taken = taken }

-- one for the sender, and one for each of sixteen workers
abbrev pub all_shares : ℕ
all_shares = 17

abbrev pub AllStop : List Work → Type 0
AllStop [] = Unit {0}
AllStop (Do _ ∷ ws) = ⊥
AllStop (Stop ∷ ws) = AllStop ws

-- jobs, and after a `Stop` only `Stop`
abbrev pub IsBatch : List Work → Type 0
IsBatch [] = Unit {0}
IsBatch (Do _ ∷ ws) = IsBatch ws
IsBatch (Stop ∷ ws) = AllStop ws

-- the same messages in any order: every weight function has the same sum
abbrev pub SameMessages : List Work → List Work → Type 0
SameMessages xs ys = (weight : Work → ℕ) → sum_by weight xs ≡ sum_by weight ys

-- what was sent is the messages taken, in some order, followed by those that the channel holds
abbrev pub MatchesAll : List Work → List Work → List Work → Type 0
MatchesAll sent taken items = (got : List Work) × (sent ≡ got ++ items) × SameMessages got taken

-- the one pass that sends knows all that was sent; a pass with no share took nothing
abbrev pub Fits : ℕ → List Work → ℕ → Hand → Type 0
Fits sender sent port v = (v.sends ≡ true → (port ≡ sender) × (v.sent ≡ sent)) × (v.shares ≡ 0 → v.taken ≡ [])

-- `got` is what was taken, in order
pub record Kept (items : List Work) (views : List Hand) : Type 0 where
  pub sender : ℕ
  pub got : List Work
  pub batch : IsBatch (got ++ items)
  pub shares : sum_by (λ v. v.shares) views ≡ all_shares
  pub taken : (weight : Work → ℕ) → sum_by weight got ≡ sum_by (λ v. sum_by weight v.taken) views
  pub fits : (port : ℕ) (v : Hand) → get_elem? views port ≡ some v → Fits sender (got ++ items) port v
