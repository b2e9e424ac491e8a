-- The fields and lines of a records file, as texts that stand for values (profile). A number is its ASCII digits; an octet
-- is two hexadecimal digits, each in either case.
use Rattle.std.specs.Prelude.{◌≡◌, ◌⊎◌, ℕ, ◌<◌, ◌≤◌, Bool, true, false, nat_eq, List, [], ◌∷◌, ◌++◌, length, Option, Some, None, Ok, if◌then◌else◌, codes as text}
use Rattle.std.specs.List.{join_with_byte, IsDistinct}
use Rattle.hex.specs.Hex.{decode_of}
use Rattle.hlr_types.specs.declared.register.Register.{Register}
use Rattle.hlr_types.specs.Digits.{AreSomeDigits, AreImsiDigits}
use Rattle.hlr_types.specs.DigitTexts.{text_of}
use Rattle.records.specs.declared.version.Version.{Version}
use Rattle.records.specs.declared.version.Version.TheVariants.{One, Two}
use Rattle.records.specs.Subscriber.{Subscriber}

-- ---- numbers, octets, lists

-- The text is these 1 to 16 digits.
abbrev pub IsNumber : List ℕ → List ℕ → Type 0
IsNumber written digits = (written ≡ text_of digits) × AreSomeDigits digits

-- The text is these 5 to 15 digits.
abbrev pub IsImsiNumber : List ℕ → List ℕ → Type 0
IsImsiNumber written digits = IsNumber written digits × AreImsiDigits digits

-- The text is two hexadecimal digits for each of these octets.
abbrev pub IsHexadecimal : List ℕ → List ℕ → Type 0
IsHexadecimal written octets = decode_of written ≡ Ok octets

abbrev pub IsCode : List ℕ → ℕ → Type 0
IsCode written code = IsHexadecimal written (code ∷ [])

-- Each text stands for the value at its index.
abbrev pub Each : {X : Type 0} → (List ℕ → X → Type 0) → List (List ℕ) → List X → Type 0
Each StandsFor [] [] = Unit {0}
Each StandsFor (t ∷ ts) (x ∷ xs) = StandsFor t x × Each StandsFor ts xs
Each StandsFor _ _ = ⊥

-- 1 to `limit` texts with commas between them, which stand for the values.
pub record IsList {X : Type 0} (StandsFor : List ℕ → X → Type 0) (limit : ℕ) (field : List ℕ) (values : List X) : Type 0 where
  pub texts : List (List ℕ)
  pub joined : field ≡ join_with_byte 44 texts
  pub each : Each StandsFor texts values
  pub some : 0 < length values
  pub most : length values ≤ limit

-- ---- fields

-- `-`, or 1 to 32 different octets with commas.
abbrev pub IsCodes : List ℕ → List ℕ → Type 0
IsCodes field codes = ((field ≡ text "-") × (codes ≡ [])) ⊎ (IsList IsCode 32 field codes × IsDistinct nat_eq codes)

-- `*`, or 1 to 8 prefixes of 1 to 16 digits with commas.
abbrev pub IsRoam : List ℕ → Option (List (List ℕ)) → Type 0
IsRoam field None = field ≡ text "*"
IsRoam field (Some prefixes) = IsList IsNumber 8 field prefixes

-- `-`, or the eight hexadecimal digits of the four octets.
abbrev pub IsLmsiField : List ℕ → Option (List ℕ) → Type 0
IsLmsiField field None = field ≡ text "-"
IsLmsiField field (Some lmsi) = IsHexadecimal field lmsi × (length lmsi ≡ 4)

-- `p` if the register has purged the subscriber, `s` if it serves.
abbrev pub purged_text : Bool → List ℕ
purged_text purged = if purged then text "p" else text "s"

-- `-`, or `<vlr>,<msc>,<lmsi or ->,<s or p>`.
abbrev pub IsRegister : List ℕ → Option Register → Bool → Type 0
IsRegister field None purged = (field ≡ text "-") × (purged ≡ false)
IsRegister field (Some register) purged = (vlr msc lmsi : List ℕ)
    × (field ≡ join_with_byte 44 (vlr ∷ msc ∷ lmsi ∷ purged_text purged ∷ []))
    × IsNumber vlr register.vlr × IsNumber msc register.msc × IsLmsiField lmsi register.lmsi

-- `w` if the subscriber is withdrawn, else `a`.
abbrev pub withdrawn_text : Bool → List ℕ
withdrawn_text withdrawn = if withdrawn then text "w" else text "a"

-- ---- lines

-- The fields that only version 2 has.
abbrev pub sixth : Version → Bool → List (List ℕ)
sixth One withdrawn = []
sixth Two withdrawn = withdrawn_text withdrawn ∷ []

-- Version 1 has no withdrawn subscriber, and a withdrawn one has no register.
abbrev pub MayBeWithdrawn : Version → Subscriber → Type 0
MayBeWithdrawn One s = s.withdrawn ≡ false
MayBeWithdrawn Two s = s.withdrawn ≡ true → s.register ≡ None

-- The line is `<imsi> <msisdn> <codes> <roam> <register>`, in version 2 followed by ` <a or w>`, and stands for the record.
-- No file has a current update.
pub record IsRecordLine (version : Version) (line : List ℕ) (s : Subscriber) : Type 0 where
  pub imsi : List ℕ
  pub msisdn : List ℕ
  pub codes : List ℕ
  pub roam : List ℕ
  pub register : List ℕ
  pub fields : line ≡ join_with_byte 32 (imsi ∷ msisdn ∷ codes ∷ roam ∷ register ∷ sixth version s.withdrawn)
  pub is_imsi : IsImsiNumber imsi s.imsi
  pub is_msisdn : IsNumber msisdn s.msisdn
  pub is_codes : IsCodes codes s.codes
  pub is_roam : IsRoam roam s.roam
  pub is_register : IsRegister register s.register s.purged
  pub may_be_withdrawn : MayBeWithdrawn version s
  pub no_current : s.current ≡ None

abbrev pub mark_of : Version → List ℕ
mark_of One = text "HLR1 "
mark_of Two = text "HLR2 "

-- The line is `HLR1 <digits>` or `HLR2 <digits>`; the digits are the HLR number.
abbrev pub IsHeader : List ℕ → Version → List ℕ → Type 0
IsHeader line version hlr = (number : List ℕ) × (line ≡ mark_of version ++ number) × IsNumber number hlr
