-- Whether some batch of a script is long, line by line.
use Rattle.std.proofs.Common.{◌≡◌, ℕ, ◌+◌, ◌*◌, ◌<◌, ◌≤◌, Bool, true, false, List, [], ◌∷◌, length, refl, ap, ◌∙◌, arith}
use Rattle.std.specs.Prelude.{◌||◌, codes, nat_le}
use Rattle.std.specs.List.{list_any}
use Rattle.std.proofs.lemmas.Bool.{cond-true, cond-false, le-leb, lt-leb, or_left}
use Rattle.records.specs.Reading.{is_text}
use Rattle.workers.specs.declared.lot.TheConstants.{JOBS_OF_A_START}
use Rattle.hlr_program.specs.Batches.{batches_of, with_line}
use Rattle.hlr_program.specs.Sharing.{is_long}

-- ---- batches of which the first has begun

-- Whether one of these batches is long, if n lines stand before those of the first.
abbrev any_after : ℕ → List (List (List ℕ)) → Bool
any_after n [] = nat_le (2 * JOBS_OF_A_START) n
any_after n (batch ∷ more) = nat_le (2 * JOBS_OF_A_START) (n + length batch) || list_any is_long more

none_before : (bs : List (List (List ℕ))) → list_any is_long bs ≡ any_after 0 bs
none_before [] = refl
none_before (b ∷ bs) =
    let same : length b ≡ 0 + length b = omega arith in ap (λ (k : ℕ). nat_le (2 * JOBS_OF_A_START) k || list_any is_long bs) same

or_none : (b : Bool) → (b || false) ≡ b
or_none true = refl
or_none false = refl

one_more : (n : ℕ) (line : List ℕ) (bs : List (List (List ℕ))) → any_after n (with_line line bs) ≡ any_after (n + 1) bs
one_more n line [] = or_none (nat_le (2 * JOBS_OF_A_START) (n + 1))
one_more n line (b ∷ bs) =
    let same : n + length (line ∷ b) ≡ n + 1 + length b = omega arith in ap (λ (k : ℕ). nat_le (2 * JOBS_OF_A_START) k || list_any is_long bs) same

too_few : (n : ℕ) (bs : List (List (List ℕ))) → n < 2 * JOBS_OF_A_START → any_after n ([] ∷ bs) ≡ list_any is_long bs
too_few n bs few = ap (λ (b : Bool). b || list_any is_long bs) (lt-leb (2 * JOBS_OF_A_START) (n + 0) (omega (arith, few)))

enough : (n : ℕ) (bs : List (List (List ℕ))) → 2 * JOBS_OF_A_START ≤ n → any_after n bs ≡ true
enough n [] many = le-leb (2 * JOBS_OF_A_START) n many
enough n (b ∷ bs) many = or_left _ _ (le-leb (2 * JOBS_OF_A_START) (n + length b) (omega (arith, many)))

-- ---- a script, line by line

-- One of all batches is long if one is that begins in these lines, of which the first has n lines before them; none that ended before them is.
pub record Sought (all here : List (List ℕ)) (n : ℕ) : Type 0 where
  pub left : list_any is_long (batches_of all) ≡ any_after n (batches_of here)

pub sought_begins : (all : List (List ℕ)) → Sought all all 0
sought_begins all = record { left = none_before (batches_of all) }

pub sought_after_end : (all here : List (List ℕ)) (n : ℕ) (line : List ℕ) (more : List (List ℕ)) → Sought all here n → n < 2 * JOBS_OF_A_START
    → here ≡ line ∷ more → is_text line (codes "W") ≡ true → Sought all more 0
sought_after_end all here n line more h few is end = record {
  left = h.left
      ∙ ap (any_after n) (ap batches_of is ∙ cond-true (is_text line (codes "W")) ([] ∷ batches_of more) (with_line line (batches_of more)) end)
      ∙ too_few n (batches_of more) few
      ∙ none_before (batches_of more);
}

pub sought_after_line : (all here : List (List ℕ)) (n : ℕ) (line : List ℕ) (more : List (List ℕ)) → Sought all here n → here ≡ line ∷ more
    → is_text line (codes "W") ≡ false → Sought all more (n + 1)
sought_after_line all here n line more h is no_end = record {
  left = h.left
      ∙ ap (any_after n) (ap batches_of is ∙ cond-false (is_text line (codes "W")) ([] ∷ batches_of more) (with_line line (batches_of more)) no_end)
      ∙ one_more n line (batches_of more);
}

pub sought_found : (all here : List (List ℕ)) (n : ℕ) → Sought all here n → 2 * JOBS_OF_A_START ≤ n → list_any is_long (batches_of all) ≡ true
sought_found all here n h many = h.left ∙ enough n (batches_of here) many

pub sought_in_vain : (all here : List (List ℕ)) (n : ℕ) → Sought all here n → n < 2 * JOBS_OF_A_START → here ≡ [] → list_any is_long (batches_of all) ≡ false
sought_in_vain all here n h few is =
    h.left ∙ ap (λ (ls : List (List ℕ)). any_after n (batches_of ls)) is ∙ lt-leb (2 * JOBS_OF_A_START) n few
