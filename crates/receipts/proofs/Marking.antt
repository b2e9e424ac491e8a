-- Tables of marks, and what holds at the entries of journals.
use Rattle.std.proofs.Common.{◌≡◌, ℕ, zero, suc, ◌<◌, ◌≤◌, List, length, get_or, replicate, sym, refl, ap, ◌∙◌, arith, Some, None, ⊎_elim}
use Rattle.std.specs.Prelude.{slice_get}
use Rattle.std.specs.Int.{bit_at}
use Rattle.std.proofs.lemmas.Nat.Bits.{bit_at-zero}
use Rattle.std.proofs.lemmas.Option.{slice_get_cases, slice_get_within}
use Rattle.frames.specs.Octets.{RawEntry}
use Rattle.frames.specs.Account.{entry_at, in_journal}
use Rattle.shardlog.specs.Log.{Log}
use Rattle.receipts.specs.Journals.{journal_list}
use Rattle.receipts.specs.Marks.{HasNoMarks}
use Rattle.receipts.proofs.Places.{own, gone}

word_none : (n i : ℕ) → ◌≡◌ {A = ℕ} (get_or (replicate n 0) i 0) 0
word_none zero i = refl
word_none (suc n) zero = refl
word_none (suc n) (suc i) = word_none n i

-- a table of zeros has no marks
pub none_marked : (n : ℕ) → HasNoMarks (replicate n 0)
none_marked n shard k = ap (λ w. bit_at w shard) (word_none n k) ∙ bit_at-zero shard

module _ (logs : List Log) (n : ℕ) where
  -- what holds at each position of a shard's journal holds at its entries
  pub at_each : (l : Log) (P : ℕ → Type 0) → n < length logs → l ≡ get_or logs n l → ((k : ℕ) → k < length l.entries → P k)
      → (position : ℕ) (e : RawEntry) → entry_at (journal_list logs) n position ≡ Some e → P position
  at_each l P low is all position e stands =
      let at : slice_get l.entries position ≡ Some e = ap (λ o. in_journal o position) (sym (own logs n l low is)) ∙ stands in
      all position (slice_get_within l.entries position e at)

  past : (position : ℕ) (e : RawEntry) → length logs ≤ n → entry_at (journal_list logs) n position ≡ Some e → ⊥
  past position e over stands = let f : None ≡ Some e = ap (λ o. in_journal o position) (sym (gone logs n over)) ∙ stands in cc

-- what holds at the entries of each shard holds at all entries
pub at_all : (logs : List Log) (n : ℕ) (P : ℕ → ℕ → Type 0) → length logs ≤ n
    → ((k position : ℕ) (e : RawEntry) → k < n → entry_at (journal_list logs) k position ≡ Some e → P k position)
    → (shard position : ℕ) (e : RawEntry) → entry_at (journal_list logs) shard position ≡ Some e → P shard position
at_all logs n P all each shard position e stands =
    ⊎_elim (λ here. let low = here.1 in each shard position e (omega arith) stands) (λ over. absurd (past logs shard position e over.0 stands))
    (slice_get_cases logs shard).1
