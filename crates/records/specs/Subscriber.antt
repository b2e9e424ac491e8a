-- A subscriber's record as a value (TS 23.012), and the facts of every record.
use Rattle.std.specs.Prelude.{◌≡◌, ℕ, ◌<◌, ◌≤◌, Bool, true, false, List, length, Option, Some, None, nat_eq, refl}
use Rattle.std.specs.List.{AllByRecursion, IsDistinct}
use Rattle.std.specs.Coded.{Coded, code_by, coded×, coded_ℕ, coded_bool, coded_list, coded_option}
pub use Rattle.octets.specs.Octets.{AreOctets}
use Rattle.hlr_types.specs.declared.register.Register.{Register}
use Rattle.hlr_types.specs.Digits.{AreSomeDigits, AreImsiDigits}

-- IMSI and MSISDN; the teleservice codes, and the prefixes of the allowed VLR numbers, `None` if all are allowed; the serving
-- register, and whether it has purged the subscriber; the local id of the current update; whether the operator has withdrawn
-- the subscriber.
pub record Subscriber : Type 0 where
  pub imsi : List ℕ
  pub msisdn : List ℕ
  pub codes : List ℕ
  pub roam : Option (List (List ℕ))
  pub register : Option Register
  pub purged : Bool
  pub current : Option (List ℕ)
  pub withdrawn : Bool

-- ---- what a record keeps

-- The codes that a subscriber may have: at most 32, all different (profile).
pub record AreAllowed (codes : List ℕ) : Type 0 where
  pub most : length codes ≤ 32
  pub different : IsDistinct nat_eq codes

-- Every VLR is allowed, or those of 1 to 8 prefixes (profile).
abbrev pub MayRoam : Option (List (List ℕ)) → Type 0
MayRoam None = Unit {0}
MayRoam (Some prefixes) = (0 < length prefixes) × (length prefixes ≤ 8) × AllByRecursion AreSomeDigits prefixes

-- An LMSI is four octets (TS 29.002 17.7.8).
abbrev pub MayHaveLmsi : Option (List ℕ) → Type 0
MayHaveLmsi None = Unit {0}
MayHaveLmsi (Some lmsi) = (length lmsi ≡ 4) × AreOctets lmsi

-- The numbers of a register are addresses.
abbrev pub MayServe : Option Register → Type 0
MayServe None = Unit {0}
MayServe (Some r) = AreSomeDigits r.vlr × AreSomeDigits r.msc × MayHaveLmsi r.lmsi

-- There is no purged flag without a register, and a withdrawn subscriber has neither a register nor a current update.
pub record IsPlace (is_withdrawn : Bool) (register : Option Register) (is_purged : Bool) (current : Option (List ℕ)) : Type 0 where
  pub purged : register ≡ None → is_purged ≡ false
  pub left : is_withdrawn ≡ true → register ≡ None
  pub unmarked : is_withdrawn ≡ true → current ≡ None

pub record IsRecord (s : Subscriber) : Type 0 where
  pub imsi : AreSomeDigits s.imsi
  pub imsi_count : AreImsiDigits s.imsi
  pub msisdn : AreSomeDigits s.msisdn
  pub codes : AreAllowed s.codes
  pub octets : AreOctets s.codes
  pub roam : MayRoam s.roam
  pub register : MayServe s.register
  pub place : IsPlace s.withdrawn s.register s.purged s.current

-- ---- what changes

-- The record with this register, purged flag and current update.
abbrev pub placed : Subscriber → Option Register → Bool → Option (List ℕ) → Subscriber
placed s register purged current = record s { register = register; purged = purged; current = current }

-- The record with these codes and this withdrawn mark.
abbrev pub allowed : Subscriber → List ℕ → Bool → Subscriber
allowed s codes withdrawn = record s { codes = codes; withdrawn = withdrawn }

-- The record of a withdrawn subscriber: it has neither a register nor a current update.
abbrev pub as_withdrawn : Subscriber → Subscriber
as_withdrawn s = record s { register = None; purged = false; current = None; withdrawn = true }

-- The record without a current update.
abbrev pub unmarked : Subscriber → Subscriber
unmarked s = record s { current = None }

-- ---- codes that distinguish values

abbrev pub coded_digits : Coded (List ℕ)
coded_digits = coded_list coded_ℕ

abbrev pub register_code : Coded Register
register_code =
    code_by ((List ℕ × List ℕ) × Option (List ℕ)) (coded× (coded× coded_digits coded_digits) (coded_option coded_digits))
    (λ r. ((r.vlr, r.msc), r.lmsi)) (λ p. record { vlr = p.0.0; msc = p.0.1; lmsi = p.1 }) (λ _. refl)

-- A record as its data and its place.
abbrev Data : Type 0
Data = (List ℕ × List ℕ) × (List ℕ × Option (List (List ℕ)))

abbrev Place : Type 0
Place = (Option Register × Bool) × (Option (List ℕ) × Bool)

abbrev coded_data : Coded Data
coded_data = coded× (coded× coded_digits coded_digits) (coded× coded_digits (coded_option (coded_list coded_digits)))

abbrev coded_place : Coded Place
coded_place = coded× (coded× (coded_option register_code) coded_bool) (coded× (coded_option coded_digits) coded_bool)

abbrev as_pair : Subscriber → Data × Place
as_pair s = (((s.imsi, s.msisdn), (s.codes, s.roam)), ((s.register, s.purged), (s.current, s.withdrawn)))

abbrev from_pair : Data × Place → Subscriber
from_pair p = record {
  imsi = p.0.0.0;
  msisdn = p.0.0.1;
  codes = p.0.1.0;
  roam = p.0.1.1;
  register = p.1.0.0;
  purged = p.1.0.1;
  current = p.1.1.0;
  withdrawn = p.1.1.1;
}

abbrev pub subscriber_code : Coded Subscriber
subscriber_code = code_by (Data × Place) (coded× coded_data coded_place) as_pair from_pair (λ _. refl)
