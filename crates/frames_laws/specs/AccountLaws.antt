-- What holds of accounts, as the contract of this crate's function states it.
use Rattle.std.specs.Prelude.{◌≡◌, ℕ, List, Some}
use Rattle.frames.specs.Octets.{RawEntry}
use Rattle.frames.specs.Account.{Job, Receipt, Account, Reconciles, entry_at}

-- the entry of the number's job is at this place
pub record StandsAt (journals : List (List RawEntry)) (jobs : List Job) (receipts : List Receipt) (n shard position : ℕ) : Type 0 where
  pub account : Account journals jobs receipts n
  pub shard_is : account.place.shard ≡ shard
  pub position_is : account.place.position ≡ position

-- If jobs and receipts account for the journals, each entry is that of one job, and of no other.
pub record EachEntryOnce (journals : List (List RawEntry)) (jobs : List Job) (receipts : List Receipt) : Type 0 where
  pub some : (shard position : ℕ) (e : RawEntry) → entry_at journals shard position ≡ Some e → (n : ℕ) × StandsAt journals jobs receipts n shard position
  pub one : (n m shard position : ℕ) → StandsAt journals jobs receipts n shard position → StandsAt journals jobs receipts m shard position → n ≡ m

abbrev pub EntriesAreOneJob : Type 0
EntriesAreOneJob = (journals : List (List RawEntry)) (jobs : List Job) (receipts : List Receipt) → Reconciles journals jobs receipts
    → EachEntryOnce journals jobs receipts
