-- The worked examples of digits, identities and addresses.
use Rattle.std.proofs.Common.{refl}
use Rattle.frames_laws.specs.IdentityExamples as example

pub digit_octets : example.DigitOctets
digit_octets = record {
  even = refl;
  odd = refl;
  address = refl;
}

pub imsi_octets : example.ImsiOctets
imsi_octets = record {
  shortest = refl;
  longest = refl;
  four_digits = refl;
  sixteen_digits = refl;
  no_digit = refl;
  early_filler = refl;
  filler_alone = refl;
  empty = refl;
}

pub address_octets : example.AddressOctets
address_octets = record {
  one_digit = refl;
  sixteen_digits = refl;
  other_nature = refl;
  without_bit_8 = refl;
  too_long = refl;
  without_digits = refl;
  empty = refl;
}

pub octet_strings : example.OctetStrings
octet_strings = record {
  lmsi = refl;
  short_lmsi = refl;
  long_lmsi = refl;
  shortest_id = refl;
  longest_id = refl;
  long_id = refl;
  no_id = refl;
}
