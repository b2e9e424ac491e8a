-- The least number that is not accounted for, from number to number.
use Rattle.std.proofs.Common.{◌≡◌, ℕ, ◌<◌, ◌≤◌, ◌++◌, ◌∷◌, [], List, refl, arith, Option, Some, None}
use Rattle.std.specs.Prelude.{All}
use Rattle.std.proofs.lemmas.List.Elements.{All-append, All-cons, Contains-append_left, Contains-append_right}
use Rattle.frames.specs.Octets.{RawEntry}
use Rattle.frames.specs.Account.{Job, Receipt, Account}
use Rattle.receipts.specs.Least.{IsLeastOf, LeastAmong}

all_one : (P : ℕ → Type 0) (n : ℕ) → P n → All P (n ∷ [])
all_one P n h = All-cons P n [] h (λ k d none. absurd (omega arith))

all_more : (P : ℕ → Type 0) (ns : List ℕ) (n : ℕ) → All P ns → P n → All P (ns ++ n ∷ [])
all_more P ns n h one = All-append P ns (n ∷ []) h (all_one P n one)

module _ (journals : List (List RawEntry)) (jobs : List Job) (receipts : List Receipt) where
  -- the number is accounted for
  pub keeps : (least : Option ℕ) (n : ℕ) → Account journals jobs receipts n → (ns : List ℕ) → LeastAmong journals jobs receipts ns least
      → LeastAmong journals jobs receipts (ns ++ n ∷ []) least
  keeps None n good ns h = all_more (Account journals jobs receipts) ns n h good
  keeps (Some m) n good ns h = record {
    among = Contains-append_left ns (n ∷ []) m h.among;
    fails = h.fails;
    least = all_more (λ x. x < m → Account journals jobs receipts x) ns n h.least (λ _. good);
  }

  -- the number is above the least
  pub stays : (m n : ℕ) → m ≤ n → (ns : List ℕ) → LeastAmong journals jobs receipts ns (Some m) → LeastAmong journals jobs receipts (ns ++ n ∷ []) (Some m)
  stays m n above ns h = record {
    among = Contains-append_left ns (n ∷ []) m h.among;
    fails = h.fails;
    least = all_more (λ x. x < m → Account journals jobs receipts x) ns n h.least (λ below. absurd (omega arith));
  }

  -- the number is not accounted for, and below the least
  pub falls : (least : Option ℕ) (n : ℕ) → (Account journals jobs receipts n → ⊥) → ((m : ℕ) → least ≡ Some m → n < m) → (ns : List ℕ)
      → LeastAmong journals jobs receipts ns least → IsLeastOf journals jobs receipts (ns ++ n ∷ []) n
  falls None n bad below ns h = record {
    among = Contains-append_right ns (n ∷ []) n (0, omega arith, refl);
    fails = bad;
    least = all_more (λ x. x < n → Account journals jobs receipts x) ns n (λ k d low _. h k d low) (λ under. absurd (omega arith));
  }
  falls (Some m) n bad below ns h = record {
    among = Contains-append_right ns (n ∷ []) n (0, omega arith, refl);
    fails = bad;
    least = all_more (λ x. x < n → Account journals jobs receipts x) ns n (λ k d low under. let lt = below m refl in h.least k d low (omega arith))
        (λ under. absurd (omega arith));
  }
