-- The octets of a local id, and its number.
use Rattle.std.proofs.Common.{◌≡◌, ℕ, ◌+◌, ◌*◌, ◌/◌, ◌%◌, ◌^◌, ◌<◌, List, [], ◌∷◌, length, slice_index, refl, arith}
use Rattle.std.specs.Prelude.{Some}
use Rattle.std.specs.List.{AllByRecursion}
use Rattle.hlr_types.specs.Ids.{id_of, number_of, local_id_of, IsLocalId, AreIdNumbers}
use Rattle.hlr_types.proofs.IdentityLaws.{lmsi_found, lmsi_again}

pub local_id_found : (octets id : List ℕ) → local_id_of octets ≡ Some id → IsLocalId octets id
local_id_found octets id e = let is = lmsi_found octets id e in record { same = is.same; count = is.count }

pub local_id_again : (octets id : List ℕ) → IsLocalId octets id → local_id_of octets ≡ Some id
local_id_again octets id is = lmsi_again octets id (record { same = is.same; count = is.count })

pub ruleset local_id_laws = (local_id_found, local_id_again)

pub number_of-id_of : (shard number : ℕ) → number < 2 ^ 24 → number_of (id_of shard number) ≡ number
number_of-id_of shard number small = omega arith

pub id_of-number_of : (id : List ℕ) → length id ≡ 4 → AllByRecursion (λ octet. octet < 256) id → id_of (slice_index id 0) (number_of id) ≡ id
id_of-number_of [] four small = absurd (omega arith)
id_of-number_of (a ∷ []) four small = absurd (omega arith)
id_of-number_of (a ∷ b ∷ []) four small = absurd (omega arith)
id_of-number_of (a ∷ b ∷ c ∷ []) four small = absurd (omega arith)
id_of-number_of (a ∷ b ∷ c ∷ d ∷ e ∷ es) four small = absurd (omega arith)
id_of-number_of (a ∷ b ∷ c ∷ d ∷ []) four small =
    let high : (b * 65536 + c * 256 + d) / 65536 ≡ b = omega (arith, small.1.0, small.1.1.0, small.1.1.1.0) in
    let middle : (b * 65536 + c * 256 + d) / 256 % 256 ≡ c = omega (arith, small.1.0, small.1.1.0, small.1.1.1.0) in
    let low : (b * 65536 + c * 256 + d) % 256 ≡ d = omega (arith, small.1.0, small.1.1.0, small.1.1.1.0) in
    rw (high, middle, low) refl

pub are_id_numbers : AreIdNumbers
are_id_numbers = record { number = number_of-id_of; whole = id_of-number_of }

pub ruleset id_numbers = (are_id_numbers)
