use Rattle.std.proofs.Common.{◌≡◌, ◌==◌, ◌<◌, ℕ, Bool, true, false, cond, List, [], ◌∷◌, refl, arith}
use Rattle.machine.specs.Keys.{put_at}
use Rattle.machine.specs.Legal.{Entry}
use Rattle.machine_laws.proofs.journal_examples.journals_in_one.Goals as goal

-- what is left of each journal at the end, by whether it is that of shard 1, and of shard 0
nothing_left : (x y z : List Entry) (one zero : Bool) → cond one [] (cond zero [] (cond one x (cond one y (cond zero z [])))) ≡ []
nothing_left x y z true zero = refl
nothing_left x y z false true = refl
nothing_left x y z false false = refl

pub returns-clause-two : goal.returns-clause-two
unfolding put_at
returns-clause-two c = λ a b d.
    let ends = λ (n : ℕ) (low : n < 16). nothing_left (d ∷ []) (b ∷ d ∷ []) (a ∷ []) (1 == n) (0 == n) in
    (1, d ∷ [], omega arith, refl, (0, [], omega arith, refl, (1, [], omega arith, refl, ends)))

pub returns-clause-all : goal.returns-clause-all
unfolding put_at
returns-clause-all c = λ a ended. cc (ended 0 (omega arith))

-- the first entry of the journal of shard 1, if this is its place
first_of : (a b : Entry) (rest more : List Entry) (here : Bool) → cond here (a ∷ more) [] ≡ b ∷ rest → a ≡ b
first_of a b rest more true is = cc is
first_of a b rest more false is = absurd (cc is)

pub returns-clause-in_order : goal.returns-clause-in_order
unfolding put_at
returns-clause-in_order c = λ a b other merge. other (first_of a b merge.1 (b ∷ []) (1 == merge.0) merge.3)
