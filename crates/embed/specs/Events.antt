-- Events, from what a program has in its hands: octets, texts and numbers.
use Rattle.std.specs.Prelude.{◌≡◌, ◌<◌, ℕ, List}
use Rattle.machine.specs.Events.{Codes, Withdraw}
use Rattle.frames.specs.Octets.{RawEvent, RawFrame, RawExpire, RawChange}
use Rattle.hlr_types.specs.DigitTexts.{IsText}
use Rattle.records.specs.Spelling.{IsCodes, IsImsiNumber}

-- A frame of these octets from the address with the digits of this text.
abbrev pub IsFrame : (from octets : List ℕ) → RawEvent → Type 0
IsFrame from octets raw = (digits : List ℕ) × IsText from digits × (raw ≡ RawFrame digits octets)

-- The expiry of a shard's least timer that is due.
abbrev pub IsExpiry : (shard : ℕ) → RawEvent → Type 0
IsExpiry shard raw = (shard < 16) × (raw ≡ RawExpire shard)

-- New teleservice codes for a subscriber, in the texts that a records file has.
abbrev pub IsCodesChange : (imsi codes : List ℕ) → RawEvent → Type 0
IsCodesChange imsi codes raw =
    (digits list : List ℕ) × IsImsiNumber imsi digits × IsCodes codes list × (raw ≡ RawChange digits (Codes list))

-- The end of a subscription.
abbrev pub IsWithdrawal : (imsi : List ℕ) → RawEvent → Type 0
IsWithdrawal imsi raw = (digits : List ℕ) × IsImsiNumber imsi digits × (raw ≡ RawChange digits Withdraw)
