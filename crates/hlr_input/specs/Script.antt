-- The script: lines that say what the register receives (profile).
use Rattle.std.specs.Prelude.{◌≡◌, ℕ, ◌≤◌, ◌==◌, Bool, true, not, List, [], ◌∷◌, codes as text}
use Rattle.std.specs.Fmt.{decimal}
use Rattle.std.specs.List.{list_any}
use Rattle.machine.specs.declared.numbers.TheConstants.{MAX_CLOCK}
use Rattle.records.specs.Spelling.{IsNumber, IsImsiNumber, IsCodes}
use Rattle.texts.specs.Lines.{parts}
use Rattle.hlr_input.specs.declared.group.Group.{Group}
use Rattle.hlr_input.specs.declared.item.Item.{Item}
use Rattle.hlr_input.specs.declared.item.Item.TheVariants as item
use Rattle.hlr_input.specs.Octets.{IsOctets}

-- What a line says: a frame from this address with these octets, as written; a clock value for each shard; an expiry of each
-- shard; the end of a batch; new teleservice codes for a subscriber; the end of a subscription.
pub data Line : Type 0 where
  Frame : (from octets : List ℕ) → Line
  Clock : (now : ℕ) → Line
  Expire : Line
  Batch : Line
  Codes : (imsi codes : List ℕ) → Line
  Withdraw : (imsi : List ℕ) → Line

-- The text is the number in decimal, without a leading zero, and at most 2^62.
pub record IsTicks (written : List ℕ) (ticks : ℕ) : Type 0 where
  pub written_so : written ≡ decimal ticks
  pub most : ticks ≤ MAX_CLOCK

-- The fields say this: `F <from> <octets>`, `C <ticks>`, `E`, `W`, `O <imsi> <codes>` or `X <imsi>`. The octets of a frame are
-- any field here.
abbrev pub Say : List (List ℕ) → Line → Type 0
Say (kind ∷ number ∷ octets ∷ []) (Frame from field) = (kind ≡ text "F") × IsNumber number from × (octets ≡ field)
Say (kind ∷ ticks ∷ []) (Clock now) = (kind ≡ text "C") × IsTicks ticks now
Say (kind ∷ []) Expire = kind ≡ text "E"
Say (kind ∷ []) Batch = kind ≡ text "W"
Say (kind ∷ number ∷ field ∷ []) (Codes imsi codes) = (kind ≡ text "O") × IsImsiNumber number imsi × IsCodes field codes
Say (kind ∷ number ∷ []) (Withdraw imsi) = (kind ≡ text "X") × IsImsiNumber number imsi
Say _ _ = ⊥

-- The line says this: its fields are the parts between its spaces.
abbrev pub IsLine : List ℕ → Line → Type 0
IsLine line said = Say (parts 32 line) said

abbrev pub has_space : List ℕ → Bool
has_space written = list_any (λ character. character == 32) written

-- No field follows a frame's octets.
abbrev pub is_closed : Line → Bool
is_closed (Frame from field) = not (has_space field)
is_closed _ = true

-- The octets of a frame have their form.
abbrev pub HasOctets : Line → Type 0
HasOctets (Frame from field) = (groups : List Group) × IsOctets field groups
HasOctets _ = Unit {0}

-- The line says this, and its octets have their form.
abbrev pub IsGoodLine : List ℕ → Line → Type 0
IsGoodLine line said = IsLine line said × HasOctets said

-- an item of the code as a line
abbrev pub line_of : Item → Line
line_of (item.Frame from octets) = Frame from octets.now
line_of (item.Clock now) = Clock now
line_of item.Expire = Expire
line_of item.Batch = Batch
line_of (item.Codes imsi codes) = Codes imsi codes
line_of (item.Withdraw imsi) = Withdraw imsi
