-- A mark for each entry of journals, in a table of words: a word for each position, and in it a bit for each shard.
use Rattle.std.specs.Prelude.{◌≡◌, ℕ, List, Some, count_by, slice_index}
use Rattle.std.specs.Int.{bit_at}
use Rattle.frames.specs.Octets.{RawEntry}
use Rattle.frames.specs.Account.{Receipt, entry_at, names_place}

-- 1 if the place is marked, else 0
abbrev pub mark_at : List ℕ → (shard position : ℕ) → ℕ
mark_at words shard position = bit_at (slice_index words position) shard

abbrev pub HasNoMarks : List ℕ → Type 0
HasNoMarks words = (shard position : ℕ) → mark_at words shard position ≡ 0

-- Each receipt names another place, and these places are marked.
abbrev pub AreMarked : List Receipt → List ℕ → Type 0
AreMarked receipts words = (shard position : ℕ) → count_by (names_place shard position) receipts ≡ mark_at words shard position

-- Each entry is marked.
abbrev pub HasAllMarks : List (List RawEntry) → List ℕ → Type 0
HasAllMarks journals words = (shard position : ℕ) (e : RawEntry) → entry_at journals shard position ≡ Some e → mark_at words shard position ≡ 1
