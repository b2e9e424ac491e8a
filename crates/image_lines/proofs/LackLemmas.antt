-- No field of a line has a space, and no line a line feed.
use Rattle.std.proofs.Common.{◌≡◌, ℕ, suc, ◌+◌, ℤ, pos, negsuc, ◌<◌, ◌≤◌, ◌^◌, Bool, true, false, List, [], ◌∷◌, refl, arith}
use Rattle.std.specs.Prelude.{nat_le, Option, Some, None, FitsSigned, codes}
use Rattle.std.specs.Int.{w8}
use Rattle.std.specs.Fmt.{decimal, signed_decimal}
use Rattle.std.specs.List.{AllByRecursion, list_all}
use Rattle.std.specs.Str.Parse.{AllDigits}
use Rattle.std.proofs.lemmas.Bool.{and_parts, leb-true, ne_eqb}
use Rattle.std.proofs.lemmas.Str.Parse.{digit_from_value}
use Rattle.std.proofs.lemmas.Fmt.{decimal_is_IsNumeral}
use Rattle.hex.specs.Hex.{encode_upper}
use Rattle.octets.specs.Octets.{AreOctets}
use Rattle.hlr_types.specs.DigitTexts.{text_of}
use Rattle.machine.specs.Sent.{CancellationType, UpdateProcedure, SubscriptionWithdraw}
use Rattle.machine.specs.State.{Dialogue, Kind, Updates, Cancels, Data, Was, OperationSent, WaitForReject}
use Rattle.records.proofs.AgainFields.{Lacks, Lacks-join}
use Rattle.image_lines.specs.Lines.{AreFour, IfKnown, IsKind, IsLine, IsOpened, IsRemote, Line, Shard, Used, Freed, Opened, Waits, End, dialogue_fields, fields, kind_fields, line_text, mark_text, octets_text, was_text, why_text}
use Rattle.image_lines.specs.Reading.{is_upper}
use Rattle.image_lines.proofs.OctetLemmas.{encoded_upper}

-- Each character is `*` or one after it.
abbrev High : List ℕ → Type 0
High written = AllByRecursion (λ c. 42 ≤ c) written

-- a word, by computing
word_high : (written : List ℕ) → list_all (λ c. nat_le 42 c) written ≡ true → High written
word_high [] e = tt
word_high (x ∷ xs) e =
    let p = and_parts (nat_le 42 x) (list_all (λ c. nat_le 42 c) xs) e in
    (leb-true 42 x p.0, word_high xs p.1)

digits_high : (written : List ℕ) → AllDigits 10 written → High written
digits_high [] all = tt
digits_high (c ∷ cs) all =
    let digit = digit_from_value c all.0 in
    (omega (arith, digit), digits_high cs all.1)

decimal_high : (n : ℕ) → n < 2 ^ 64 → High (decimal n)
decimal_high n lt = digits_high (decimal n) (decimal_is_IsNumeral n lt).0.1

few_high : (n most : ℕ) → n < most → most < 2 ^ 64 → High (decimal n)
few_high n most lt small = decimal_high n (omega (arith, lt, small))

signed_high : (z : ℤ) → FitsSigned w8 z → High (signed_decimal z)
signed_high (pos n) f = few_high n (2 ^ 7) f.sfits (omega arith)
signed_high (negsuc n) f = let lt = f.sfits in (omega arith, few_high (suc n) (2 ^ 7 + 1) (omega (arith, lt)) (omega arith))

upper_is_high : (character : ℕ) → is_upper character ≡ true → 42 ≤ character
upper_is_high character e = grind arith

upper_high : (written : List ℕ) → list_all is_upper written ≡ true → High written
upper_high [] e = tt
upper_high (x ∷ xs) e =
    let p = and_parts (is_upper x) (list_all is_upper xs) e in
    (upper_is_high x p.0, upper_high xs p.1)

octets_high : (octets : List ℕ) → AreOctets octets → High (encode_upper octets)
octets_high octets are = upper_high (encode_upper octets) (encoded_upper octets are)

known_high : (Is : List ℕ → Type 0) → ((octets : List ℕ) → Is octets → AreOctets octets) → (known : Option (List ℕ)) → IfKnown Is known
    → High (octets_text known)
known_high Is are None is = word_high (codes "-") refl
known_high Is are (Some octets) is = octets_high octets (are octets is)

mark_high : (is_current : Bool) → High (mark_text is_current)
mark_high true = word_high (codes "*") refl
mark_high false = word_high (codes "-") refl

was_high : (was : Was) → High (was_text was)
was_high OperationSent = word_high (codes "sent") refl
was_high WaitForReject = word_high (codes "wait") refl

why_high : (why : CancellationType) → High (why_text why)
why_high UpdateProcedure = word_high (codes "update") refl
why_high SubscriptionWithdraw = word_high (codes "withdraw") refl

text_high : (digits : List ℕ) → High (text_of digits)
text_high [] = tt
text_high (d ∷ ds) = (omega arith, text_high ds)

kind_high : (kind : Kind) → IsKind kind → AllByRecursion High (kind_fields kind)
kind_high (Updates register invoke) is = (
  word_high (codes "update") refl,
  (
    text_high register.vlr,
    (text_high register.msc, (known_high AreFour (λ octets four. four.each) register.lmsi is.0.lmsi, (signed_high invoke is.1, tt))),
  ),
)
kind_high (Cancels vlr attempt why) is =
    (word_high (codes "cancel") refl, (text_high vlr, (few_high attempt 256 is.1 (omega arith), (why_high why, tt))))
kind_high Data is = (word_high (codes "data") refl, tt)

dialogue_high : (is_current : Bool) (d : Dialogue) → IsOpened d → AllByRecursion High (dialogue_fields is_current d)
dialogue_high is_current d is = (
  text_high d.subscriber,
  (
    text_high d.transaction.peer,
    (known_high IsRemote (λ octets remote. remote.each) d.transaction.remote is.remote, (mark_high is_current, kind_high d.kind is.kind)),
  ),
)

fields_high : (line : Line) → IsLine line → AllByRecursion High (fields line)
fields_high (Shard shard clock first) is =
    let low = is.number in
    let most = is.ticks in
    let few = is.generation in
    let wide : 2 ^ 62 < 2 ^ 64 = omega arith in (
      word_high (codes "S1") refl,
      (
        few_high shard 256 (omega (arith, low)) (omega arith),
        (decimal_high clock (omega (arith, most, wide)), (few_high first 65536 (omega (arith, few)) (omega arith), tt)),
      ),
    )
fields_high (Used id) is = (word_high (codes "T") refl, (octets_high id is.each, tt))
fields_high (Freed id) is = (word_high (codes "F") refl, (octets_high id is.each, tt))
fields_high (Opened id is_current d) is = (word_high (codes "D") refl, (octets_high id is.0.each, dialogue_high is_current d is.1))
fields_high (Waits v) is = (word_high (codes "I") refl, (signed_high v.id is.0, (was_high v.was, (decimal_high v.deadline is.1, tt))))
fields_high End is = (word_high (codes "E") refl, tt)

-- ---- what they lack

high_lacks : (at : ℕ) → at < 42 → (written : List ℕ) → High written → Lacks at written
high_lacks at lt [] high = tt
high_lacks at lt (c ∷ cs) high = let low = high.0 in (ne_eqb c at (λ is. omega (arith, lt, low, is)), high_lacks at lt cs high.1)

all_lack : (at : ℕ) → at < 42 → (texts : List (List ℕ)) → AllByRecursion High texts → AllByRecursion (Lacks at) texts
all_lack at lt [] high = tt
all_lack at lt (t ∷ ts) high = (high_lacks at lt t high.0, all_lack at lt ts high.1)

pub fields_lack : (line : Line) → IsLine line → AllByRecursion (Lacks 32) (fields line)
fields_lack line is = all_lack 32 (omega arith) (fields line) (fields_high line is)

-- and a line has no line feed
pub line_lacks_feed : (line : Line) → IsLine line → Lacks 10 (line_text line)
line_lacks_feed line is = Lacks-join 10 32 (fields line) refl (all_lack 10 (omega arith) (fields line) (fields_high line is))
