-- The identities and addresses that octets are (TS 29.002 17.7.8), and transaction ids (Q.773).
use Rattle.std.specs.Prelude.{◌≡◌, ◌≤◌, ℕ, ◌&&◌, nat_le, if◌then◌else◌, List, [], ◌∷◌, length, Option, Some, None, Result, Ok, Err, option_and_then}
use Rattle.std.specs.Result.{result_ok}
use Rattle.hlr_types.specs.declared.tbcd.TbcdFault.{TbcdFault}
use Rattle.hlr_types.specs.declared.tbcd.TbcdFault.TheVariants.{BadCount}
use Rattle.hlr_types.specs.declared.address.TheConstants.{INTERNATIONAL_E164}
use Rattle.hlr_types.specs.Digits.{AreSomeDigits, AreImsiDigits}
use Rattle.hlr_types.specs.Tbcd.{digits_of, tbcd, IsTbcd}

-- ---- readings: total functions, with each fault

-- The digits, if there are 5 to 15, as an IMSI has.
abbrev pub imsi_from : List ℕ → Result (List ℕ) TbcdFault
imsi_from digits = if nat_le 5 (length digits) && nat_le (length digits) 15 then Ok digits else Err BadCount

-- The digits of an IMSI.
abbrev pub imsi_of : List ℕ → Option (List ℕ)
imsi_of octets = option_and_then (λ digits. result_ok (imsi_from digits)) (result_ok (digits_of octets))

-- The digits of an address (ISDN-AddressString). Its first octet has bit 8 set (no extension) and holds the nature of the
-- address and its numbering plan; these are not kept (profile).
abbrev pub address_of : List ℕ → Option (List ℕ)
address_of [] = None
address_of (nature ∷ octets) = if nat_le 128 nature then result_ok (digits_of octets) else None

-- An LMSI, if there are four octets.
abbrev pub lmsi_of : List ℕ → Option (List ℕ)
lmsi_of octets = if nat_le 4 (length octets) && nat_le (length octets) 4 then Some octets else None

-- The peer's transaction id: 1 to 4 octets.
abbrev pub remote_id_of : List ℕ → Option (List ℕ)
remote_id_of octets = if nat_le 1 (length octets) && nat_le (length octets) 4 then Some octets else None

-- ---- what is sent

-- The octets of an address that is sent: 91, which is an international number of the numbering plan E.164, and its
-- digits in TBCD.
abbrev pub address_octets : List ℕ → List ℕ
address_octets digits = INTERNATIONAL_E164 ∷ tbcd digits

-- ---- forms: relations between octets and what they are

-- The octets are the IMSI of these digits: 3 to 8 octets of TBCD, 5 to 15 digits.
pub record IsImsi (octets digits : List ℕ) : Type 0 where
  pub spelled : IsTbcd octets digits
  pub count : AreImsiDigits digits

-- The octets are an address with these digits: an octet with bit 8 set, and 1 to 8 octets of TBCD.
pub record IsAddress (octets digits : List ℕ) : Type 0 where
  pub nature : ℕ
  pub rest : List ℕ
  pub whole : octets ≡ nature ∷ rest
  pub high : 128 ≤ nature
  pub spelled : IsTbcd rest digits

-- The octets are this LMSI.
pub record IsLmsi (octets lmsi : List ℕ) : Type 0 where
  pub same : octets ≡ lmsi
  pub count : length lmsi ≡ 4

-- The octets are this transaction id of the peer.
pub record IsRemoteId (octets id : List ℕ) : Type 0 where
  pub same : octets ≡ id
  pub least : 1 ≤ length id
  pub most : length id ≤ 4

-- ---- laws

-- Each text of 5 to 15 digits is the IMSI of exactly one octet string, of 3 to 8 octets, which is the IMSI of no other text.
pub record AreImsiForms : Type 0 where
  pub has_form : (digits : List ℕ) → AreSomeDigits digits → AreImsiDigits digits → IsImsi (tbcd digits) digits
  pub few_octets : (octets digits : List ℕ) → IsImsi octets digits → (3 ≤ length octets) × (length octets ≤ 8)
  pub one_form : (digits octets others : List ℕ) → IsImsi octets digits → IsImsi others digits → octets ≡ others
  pub one_text : (octets digits others : List ℕ) → IsImsi octets digits → IsImsi octets others → digits ≡ others

-- What is sent for an address is read as its digits. An address has 2 to 9 octets and the digits of one address alone.
pub record AreAddressForms : Type 0 where
  pub sent_is_read : (digits : List ℕ) → AreSomeDigits digits → address_of (address_octets digits) ≡ Some digits
  pub few_octets : (octets digits : List ℕ) → IsAddress octets digits → (2 ≤ length octets) × (length octets ≤ 9)
  pub one_text : (octets digits others : List ℕ) → IsAddress octets digits → IsAddress octets others → digits ≡ others
