-- What the parts of a line read to. Private functions cite these; the lines are in `Lines`.
use Rattle.std.specs.Prelude.{ℕ, ℤ, pos, negsuc, ◌/◌, ◌^◌, ◌==◌, ◌&&◌, ◌||◌, nat_le, nat_lt, Bool, true, false, List, [], ◌∷◌, length, Option, Some, None, option_map, if◌then◌else◌, codes as text}
use Rattle.std.specs.Fmt.{decimal, signed_decimal}
use Rattle.std.specs.List.{list_all}
use Rattle.std.specs.Result.{result_ok}
use Rattle.std.specs.Str.Parse.{digits_value, signed_digits_value}
use Rattle.hex.specs.Hex.{decode_sized}
use Rattle.hlr_types.specs.DigitTexts.{digits_in}
use Rattle.records.specs.Reading.{◌>>=◌, imsi_in, is_text}
use Rattle.machine.specs.declared.numbers.TheConstants.{MAX_CLOCK}
use Rattle.machine.specs.Sent.{CancellationType, UpdateProcedure, SubscriptionWithdraw}
use Rattle.machine.specs.State.{Dialogue, Kind, Updates, Cancels, Data, Was, OperationSent, WaitForReject}
use Rattle.image_lines.specs.Lines.{Line, Shard, Used, Freed, Opened, Waits, End}

-- ---- numbers

-- Whether a text begins with a digit, which is 0 only if it is the only character.
abbrev pub is_plain : List ℕ → Bool
is_plain [] = false
is_plain (first ∷ more) = if first == 48 then length more == 0 else nat_le 49 first && nat_le first 57

-- The same of a text with a sign: after `-` there is no 0.
abbrev pub is_plain_signed : List ℕ → Bool
is_plain_signed (first ∷ second ∷ more) =
    if first == 45 then (if second == 48 then false else is_plain (second ∷ more)) else is_plain (first ∷ second ∷ more)
is_plain_signed written = is_plain written

abbrev pub number_if : List ℕ → ℕ → Option ℕ
number_if field n = if nat_lt n (2 ^ 64) && is_text field (decimal n) then Some n else None

-- The number below 2^64 of which the field is the decimal text.
unfoldable pub decimal_in : List ℕ → Option ℕ
decimal_in field = number_if field (digits_value 10 field)

-- The same of a number up to a limit.
unfoldable pub up_to : (most : ℕ) → List ℕ → Option ℕ
up_to most field = decimal_in field >>= λ n. if nat_le n most then Some n else None

-- Whether it is -128 to 127.
abbrev pub is_small : ℤ → Bool
is_small (pos n) = nat_lt n 128
is_small (negsuc n) = nat_lt n 128

abbrev pub signed_if : List ℕ → ℤ → Option ℤ
signed_if field z = if is_small z && is_text field (signed_decimal z) then Some z else None

-- The number from -128 to 127 of which the field is the decimal text.
unfoldable pub signed_in : List ℕ → Option ℤ
signed_in field = signed_if field (signed_digits_value 10 field)

-- ---- octets

-- A hexadecimal digit in upper case.
abbrev pub is_upper : ℕ → Bool
is_upper character = (nat_le 48 character && nat_le character 57) || (nat_le 65 character && nat_le character 70)

-- The octets of as many pairs of digits.
unfoldable pub octets_in : (count : ℕ) → List ℕ → Option (List ℕ)
octets_in count field = if list_all is_upper field then result_ok (decode_sized field count) else None

unfoldable pub few_octets_in : List ℕ → Option (List ℕ)
few_octets_in field = if nat_le 1 (length field / 2) && nat_le (length field / 2) 4 then octets_in (length field / 2) field else None

unfoldable pub remote_in : List ℕ → Option (Option (List ℕ))
remote_in field = if is_text field (text "-") then Some None else few_octets_in field >>= λ octets. Some (Some octets)

unfoldable pub lmsi_in : List ℕ → Option (Option (List ℕ))
lmsi_in field = if is_text field (text "-") then Some None else octets_in 4 field >>= λ octets. Some (Some octets)

-- ---- words

abbrev pub mark_in : List ℕ → Option Bool
mark_in field = if is_text field (text "*") then Some true else if is_text field (text "-") then Some false else None

abbrev pub was_in : List ℕ → Option Was
was_in field = if is_text field (text "sent") then Some OperationSent else if is_text field (text "wait") then Some WaitForReject else None

abbrev pub why_in : List ℕ → Option CancellationType
why_in field =
    if is_text field (text "update") then Some UpdateProcedure else if is_text field (text "withdraw") then Some SubscriptionWithdraw else None

-- ---- parts

-- The first part and the others, if there are others.
abbrev pub first_of : List (List ℕ) → Option (List ℕ × List (List ℕ))
first_of (first ∷ next ∷ more) = Some (first, next ∷ more)
first_of _ = None

-- The only part.
abbrev pub only_of : List (List ℕ) → Option (List ℕ)
only_of (first ∷ []) = Some first
only_of _ = None

-- ---- the kind of a dialogue

abbrev pub update_from : (vlr msc lmsi invoke : List ℕ) → Option Kind
update_from vlr msc lmsi invoke =
    digits_in vlr >>= λ v. digits_in msc >>= λ m. lmsi_in lmsi >>= λ l. signed_in invoke >>= λ i. Some (Updates (record { vlr = v; msc = m; lmsi = l }) i)

unfoldable pub update_in : List (List ℕ) → Option Kind
update_in ps = first_of ps >>= λ a. first_of a.1 >>= λ b. first_of b.1 >>= λ c. only_of c.1 >>= λ invoke. update_from a.0 b.0 c.0 invoke

unfoldable pub cancel_in : List (List ℕ) → Option Kind
cancel_in ps =
    first_of ps >>= λ a. first_of a.1 >>= λ b. only_of b.1 >>= λ why.
    digits_in a.0 >>= λ vlr. up_to 255 b.0 >>= λ attempt. why_in why >>= λ w. Some (Cancels vlr attempt w)

unfoldable pub data_in : List (List ℕ) → Option Kind
data_in ps = only_of ps >>= λ word. if is_text word (text "data") then Some Data else None

-- By its word, and what follows it.
unfoldable pub kind_by : (word : List ℕ) → List (List ℕ) → Option Kind
kind_by word ps = if is_text word (text "update") then update_in ps else if is_text word (text "cancel") then cancel_in ps else None

abbrev pub kind_from : List (List ℕ) → Option (List ℕ × List (List ℕ)) → Option Kind
kind_from ps None = data_in ps
kind_from ps (Some f) = kind_by f.0 f.1

unfoldable pub kind_in : List (List ℕ) → Option Kind
kind_in ps = kind_from ps (first_of ps)

-- ---- lines

unfoldable pub shard_in : List (List ℕ) → Option Line
shard_in ps =
    first_of ps >>= λ a. first_of a.1 >>= λ b. only_of b.1 >>= λ first.
    up_to 15 a.0 >>= λ s. up_to MAX_CLOCK b.0 >>= λ c. up_to 4095 first >>= λ f. Some (Shard s c f)

unfoldable pub id_in : List (List ℕ) → Option (List ℕ)
id_in ps = only_of ps >>= λ id. octets_in 4 id

-- A dialogue, and whether it is its subscriber's current update.
abbrev pub Said : Type 0
Said = Bool × Dialogue

abbrev pub dialogue_from : (subscriber peer remote mark : List ℕ) → List (List ℕ) → Option Said
dialogue_from subscriber peer remote mark kind =
    imsi_in subscriber >>= λ s. digits_in peer >>= λ p. remote_in remote >>= λ r. mark_in mark >>= λ m. kind_in kind >>= λ k.
    Some (m, record { subscriber = s; transaction = record { peer = p; remote = r }; invocations = []; kind = k })

unfoldable pub dialogue_in : List (List ℕ) → Option Said
dialogue_in ps =
    first_of ps >>= λ a. first_of a.1 >>= λ b. first_of b.1 >>= λ c. first_of c.1 >>= λ d. dialogue_from a.0 b.0 c.0 d.0 d.1

unfoldable pub opened_in : List (List ℕ) → Option Line
opened_in ps = first_of ps >>= λ a. octets_in 4 a.0 >>= λ id. dialogue_in a.1 >>= λ d. Some (Opened id d.0 d.1)

unfoldable pub waits_in : List (List ℕ) → Option Line
waits_in ps =
    first_of ps >>= λ a. first_of a.1 >>= λ b. only_of b.1 >>= λ deadline.
    signed_in a.0 >>= λ i. was_in b.0 >>= λ w. decimal_in deadline >>= λ d. Some (Waits (record { id = i; was = w; deadline = d }))

unfoldable pub end_in : List (List ℕ) → Option Line
end_in ps = only_of ps >>= λ word. if is_text word (text "E") then Some End else None

-- By its first field, and what follows it.
unfoldable pub line_by : (word : List ℕ) → List (List ℕ) → Option Line
line_by word ps =
    if is_text word (text "S1") then shard_in ps
    else if is_text word (text "T") then option_map (λ id. Used id) (id_in ps)
    else if is_text word (text "F") then option_map (λ id. Freed id) (id_in ps)
    else if is_text word (text "D") then opened_in ps
    else if is_text word (text "I") then waits_in ps
    else None

abbrev pub line_from : List (List ℕ) → Option (List ℕ × List (List ℕ)) → Option Line
line_from ps None = end_in ps
line_from ps (Some f) = line_by f.0 f.1

unfoldable pub line_in : List (List ℕ) → Option Line
line_in ps = line_from ps (first_of ps)
