-- Worked examples of the octets of digits, identities and addresses (TS 29.002 17.7.8).
use Rattle.std.specs.Prelude.{◌≡◌, [], Some, None}
use Rattle.hlr_types.specs.Tbcd.{tbcd}
use Rattle.hlr_types.specs.Identities.{imsi_of, address_of, lmsi_of, remote_id_of, address_octets}
use Rattle.frames_laws.specs.Written.{hex, digits}

-- Two digits to an octet, the first in the low half, and a filler after an odd count.
pub record DigitOctets : Type 0 where
  pub even : tbcd (digits "1234") ≡ hex "21 43"
  pub odd : tbcd (digits "12345") ≡ hex "21 43 F5"
  pub address : address_octets (digits "44770") ≡ hex "91 44 77 F0"

-- An IMSI has 5 to 15 digits.
pub record ImsiOctets : Type 0 where
  pub shortest : imsi_of (hex "21 43 F5") ≡ Some (digits "12345")
  pub longest : imsi_of (hex "32 14 05 00 00 00 00 F1") ≡ Some (digits "234150000000001")
  pub four_digits : imsi_of (hex "21 43") ≡ None
  pub sixteen_digits : imsi_of (hex "32 14 05 00 00 00 00 11") ≡ None
  pub no_digit : imsi_of (hex "21 43 A5") ≡ None
  pub early_filler : imsi_of (hex "21 F3 F5") ≡ None
  pub filler_alone : imsi_of (hex "21 43 65 FF") ≡ None
  pub empty : imsi_of [] ≡ None

-- An address has an octet with bit 8 set and up to sixteen digits; its nature and numbering plan are not kept.
pub record AddressOctets : Type 0 where
  pub one_digit : address_of (hex "91 F1") ≡ Some (digits "1")
  pub sixteen_digits : address_of (hex "91 21 43 65 87 09 21 43 65") ≡ Some (digits "1234567890123456")
  pub other_nature : address_of (hex "80 21") ≡ Some (digits "12")
  pub without_bit_8 : address_of (hex "7F 21") ≡ None
  pub too_long : address_of (hex "91 21 43 65 87 09 21 43 65 F7") ≡ None
  pub without_digits : address_of (hex "91") ≡ None
  pub empty : address_of [] ≡ None

-- An LMSI has four octets, a transaction id one to four.
pub record OctetStrings : Type 0 where
  pub lmsi : lmsi_of (hex "01 02 03 04") ≡ Some (hex "01 02 03 04")
  pub short_lmsi : lmsi_of (hex "01 02 03") ≡ None
  pub long_lmsi : lmsi_of (hex "01 02 03 04 05") ≡ None
  pub shortest_id : remote_id_of (hex "00") ≡ Some (hex "00")
  pub longest_id : remote_id_of (hex "01 02 03 04") ≡ Some (hex "01 02 03 04")
  pub long_id : remote_id_of (hex "01 02 03 04 05") ≡ None
  pub no_id : remote_id_of [] ≡ None
